-- Parts of a list of characters: MySQL 8.0 manual, 12.8, LEFT, RIGHT and SUBSTRING.
use Rattle.std.specs.Prelude.{ℕ, zero, suc, ◌-◌, ℤ, pos}
use Rattle.std.specs.Prelude.{negsuc, List, [], Option, Some, None}
use Rattle.std.specs.Prelude.{drop, length, nat_le, take}
use Rattle.std.specs.Prelude.{if◌then◌else◌}
use Rattle.mc_strfun.specs.Numbers.{natural}

-- the first n characters, none where n is below 1
unfoldable pub left_of : ℤ → List ℕ → List ℕ
left_of n codes = take (natural n) codes

-- the last n characters, none where n is below 1
unfoldable pub right_of : ℤ → List ℕ → List ℕ
right_of n codes = drop (length codes - natural n) codes

-- how many of so many characters stand before the one with this number, which counts from 1, or
-- from the end where it is negative; none has the number 0, or one before the first character
abbrev pub before : ℤ → ℕ → Option ℕ
before (pos zero) count = None
before (pos (suc k)) count = Some k
before (negsuc k) count = if nat_le (suc k) count then Some (count - suc k) else None

-- as many characters as are asked for, or all
abbrev pub as_many : Option ℤ → List ℕ → List ℕ
as_many None codes = codes
as_many (Some n) codes = take (natural n) codes

-- the characters from one with a number on, where there is one, as many as are asked for
unfoldable pub substring_of : ℤ → Option ℤ → List ℕ → List ℕ
substring_of number asked codes = elim (before number (length codes)) [
  | None ↦ []
  | Some k ↦ as_many asked (drop k codes)
]
