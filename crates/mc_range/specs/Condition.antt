-- Conditions on a column: MySQL 8.0 manual, 12.4.2, Comparison Functions and Operators.
use Rattle.std.specs.Prelude.{◌≡◌, ℕ, List, Option, ⊤}
use Rattle.std.specs.List.{All, Contains}
use Rattle.std.specs.declared.cmp.Ordering.{Ordering}
use Rattle.std.specs.declared.cmp.Ordering.TheVariants.{Less, Equal, Greater}
use Rattle.mc_charset.specs.declared.charset.Charset.{Charset}
use Rattle.mc_charset.specs.Chars.{chars, IsWellFormed}
use Rattle.mc_order.specs.Meaning.{Meaning, flat_list}
use Rattle.mc_order.specs.Order.{list_order}
use Rattle.mc_like.specs.Items.{items_of}
use Rattle.mc_like.specs.Like.{Like as MatchesItems}
use Rattle.mc_range.specs.declared.condition.Cell.{Cell}
use Rattle.mc_range.specs.declared.condition.Cell.TheVariants.{Null, Str}
use Rattle.mc_range.specs.declared.condition.Cond.{Cond}
use Rattle.mc_range.specs.declared.condition.Cond.TheVariants.{Eq, AtMost, AtLeast, Between, In}
use Rattle.mc_range.specs.declared.condition.Cond.TheVariants.{Like}

-- The constant is NULL or a text of the set.
abbrev pub IsCellOf : Charset → Cell → Type 0
IsCellOf set Null = ⊤
IsCellOf set (Str text) = IsWellFormed set text

-- All constants of the condition are.
abbrev pub IsCondOf : Charset → Cond → Type 0
IsCondOf set (Eq cell) = IsCellOf set cell
IsCondOf set (AtMost cell) = IsCellOf set cell
IsCondOf set (AtLeast cell) = IsCellOf set cell
IsCondOf set (Between low high) = IsCellOf set low × IsCellOf set high
IsCondOf set (In cells) = All (IsCellOf set) cells
IsCondOf set (Like pattern escape) = IsCellOf set pattern

-- The order of two texts, given by their characters, is this one.
abbrev pub HasOrder : Meaning → List ℕ → List ℕ → Ordering → Type 0
HasOrder m codes other order =
    list_order m.pad m.space (flat_list m codes) (flat_list m other) ≡ order

-- Characters are equal to the constant; none are to NULL.
abbrev pub IsEqualTo : Meaning → List ℕ → Cell → Type 0
IsEqualTo m codes Null = ⊥
IsEqualTo m codes (Str text) = HasOrder m codes (chars m.charset text) Equal

-- Characters are not above the constant.
abbrev pub IsAtMost : Meaning → List ℕ → Cell → Type 0
IsAtMost m codes Null = ⊥
IsAtMost m codes (Str text) = HasOrder m codes (chars m.charset text) Greater → ⊥

-- Characters are not below the constant.
abbrev pub IsAtLeast : Meaning → List ℕ → Cell → Type 0
IsAtLeast m codes Null = ⊥
IsAtLeast m codes (Str text) = HasOrder m codes (chars m.charset text) Less → ⊥

-- Characters match the pattern; none match NULL.
abbrev pub IsLike : Meaning → List ℕ → Cell → Option ℕ → Type 0
IsLike m codes Null escape = ⊥
IsLike m codes (Str pattern) escape =
    MatchesItems m (items_of escape (chars m.charset pattern)) codes

-- Characters meet the condition: the order of texts decides, and LIKE character by character.
abbrev pub Meets : Meaning → List ℕ → Cond → Type 0
Meets m codes (Eq cell) = IsEqualTo m codes cell
Meets m codes (AtMost cell) = IsAtMost m codes cell
Meets m codes (AtLeast cell) = IsAtLeast m codes cell
Meets m codes (Between low high) = IsAtLeast m codes low × IsAtMost m codes high
Meets m codes (In cells) = (cell : Cell) × Contains cells cell × IsEqualTo m codes cell
Meets m codes (Like pattern escape) = IsLike m codes pattern escape
