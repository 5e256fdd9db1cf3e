-- One character, and one item, at the front of a text.
use Rattle.std.specs.Prelude.{◌≡◌, ℕ, ◌<◌, IsTrue, List, ◌∷◌, Option, length}
use Rattle.std.specs.Option.{is_some}
use Rattle.mc_charset.specs.declared.charset.Charset.{Charset}
use Rattle.mc_charset.specs.Chars.{spell, chars}
use Rattle.mc_like.specs.declared.item.PatternItem.{PatternItem}
use Rattle.mc_like.specs.Items.{items_of}
use Rattle.mc_like.specs.Pattern.{is_of_set}

-- The text's first character is this one, of the set, and the others are those of the rest.
pub record HasFirst (set : Charset) (text rest : List ℕ) (code : ℕ) : Type 0 where
  pub first : chars set text ≡ code ∷ chars set rest
  pub of_set : IsTrue (is_some (spell set code))
  pub shorter : length rest < length text

-- The text reads as this item, of the set, and then as the rest does.
pub record ReadsItem (set : Charset) (escape : Option ℕ) (text rest : List ℕ)
    (item : PatternItem) : Type 0 where
  pub first : items_of escape (chars set text) ≡ item ∷ items_of escape (chars set rest)
  pub of_set : IsTrue (is_of_set set item)
  pub shorter : length rest < length text
