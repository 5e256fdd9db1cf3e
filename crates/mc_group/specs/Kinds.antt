-- What the values of a key are compared as: MySQL 8.0 manual, 12.3 and 10.8.4.
use Rattle.std.specs.Prelude.{ℕ, ◌<◌, List}
use Rattle.std.specs.List.{AllZip}
use Rattle.mc_charset.specs.Chars.{IsWellFormed}
use Rattle.mc_order.specs.Meaning.{Meaning}
use Rattle.mc_values.specs.declared.value.Value.{Value}
use Rattle.mc_values.specs.declared.value.Value.TheVariants as value
use Rattle.mc_group.specs.declared.kind.KeyKind.{KeyKind}
use Rattle.mc_group.specs.declared.kind.KeyKind.TheVariants as kind

-- The collation, if it is a kind of texts, is one of so many.
abbrev pub IsInBook : ℕ → KeyKind → Type 0
IsInBook count kind.Int = Unit
IsInBook count (kind.Text id) = id.0 < count

-- A value is NULL or of the kind: a number, or a text of the collation's set.
abbrev pub IsOfKind : (ℕ → Meaning) → KeyKind → Value → Type 0
IsOfKind meaning of value.Null = Unit
IsOfKind meaning kind.Int (value.Int number) = Unit
IsOfKind meaning (kind.Text id) (value.Str set text) = IsWellFormed (meaning id.0).charset text
IsOfKind meaning of it = ⊥

-- A key row has a value of each kind.
abbrev pub IsKeyRow : (ℕ → Meaning) → List KeyKind → List Value → Type 0
IsKeyRow meaning kinds row = AllZip (IsOfKind meaning) kinds row
