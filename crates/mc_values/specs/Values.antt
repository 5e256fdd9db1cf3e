-- Strings among values: texts of their sets, and how long they may be.
use Rattle.std.specs.Prelude.{ℕ, ◌≤◌, List, Option, Some, None, nat_le, length}
use Rattle.std.specs.Prelude.{if◌then◌else◌}
use Rattle.mc_charset.specs.Chars.{IsWellFormed}
use Rattle.mc_values.specs.declared.value.Value.{Value}
use Rattle.mc_values.specs.declared.value.Value.TheVariants.{Null, Int, Str}

-- A string is a text of its set.
abbrev pub IsTextOfSet : Value → Type 0
IsTextOfSet Null = Unit
IsTextOfSet (Int number) = Unit
IsTextOfSet (Str set text) = IsWellFormed set text

-- the greatest length of a string, in bytes: this engine's own limit
abbrev pub greatest_string : ℕ
greatest_string = 1048576

-- the value of a literal or of a function: NULL where it would be too long
abbrev pub within_limit : List ℕ → Option (List ℕ)
within_limit text = if nat_le (length text) greatest_string then Some text else None

-- A string is within the greatest length.
abbrev pub IsWithinLimit : Value → Type 0
IsWithinLimit Null = Unit
IsWithinLimit (Int number) = Unit
IsWithinLimit (Str set text) = length text ≤ greatest_string
