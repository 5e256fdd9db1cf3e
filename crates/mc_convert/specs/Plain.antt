-- Texts of characters below U+0080 that are their own spellings.
use Rattle.std.specs.Prelude.{◌≡◌, ℕ, ◌<◌, List, [], ◌∷◌, slice_index}
use Rattle.std.specs.List.{flat_map}
use Rattle.mc_charset.specs.declared.charset.Charset.{Charset}
use Rattle.mc_charset.specs.Chars.{Spells, chars}

-- The set spells the text by its bytes, all below 80.
pub record IsPlain (set : Charset) (text : List ℕ) : Type 0 where
  pub spelled : Spells set text text
  pub its_chars : chars set text ≡ text
  pub below : (k : ℕ) → slice_index text k < 0x80

-- The set spells each text of characters below U+0080 by their bytes.
abbrev pub SpellsAscii : Charset → Type 0
SpellsAscii set =
    (text : List ℕ) → ((k : ℕ) → slice_index text k < 0x80) → IsPlain set text

-- each byte behind a zero byte
abbrev pub after_one_zero : List ℕ → List ℕ
after_one_zero text = flat_map (λ byte. 0 ∷ byte ∷ []) text

-- each byte behind three zero bytes
abbrev pub after_three_zeros : List ℕ → List ℕ
after_three_zeros text = flat_map (λ byte. 0 ∷ 0 ∷ 0 ∷ byte ∷ []) text
