-- A pattern: its set and its items, whose literals are characters of the set.
use Rattle.std.specs.Prelude.{Bool, true, IsTrue, List}
use Rattle.std.specs.List.{All}
use Rattle.std.specs.Option.{is_some}
use Rattle.mc_charset.specs.declared.charset.Charset.{Charset}
use Rattle.mc_charset.specs.Chars.{spell}
use Rattle.mc_like.specs.declared.item.PatternItem.{PatternItem}
use Rattle.mc_like.specs.declared.item.PatternItem.TheVariants.{Literal, One, Any}

-- The set has what the item names.
abbrev pub is_of_set : Charset → PatternItem → Bool
is_of_set set (Literal code) = is_some (spell set code)
is_of_set set One = true
is_of_set set Any = true

-- The set has what the items name.
abbrev pub AreOfSet : Charset → List PatternItem → Type 0
AreOfSet set items = All (λ item. IsTrue (is_of_set set item)) items

-- A pattern: its set and its items, whose literals are characters of the set.
pub record CompiledPattern : Type 0 where
  pub charset : Charset
  pub items : List PatternItem
  pub of_set : AreOfSet charset items
