-- Numbers of characters.
use Rattle.std.specs.Prelude.{ℕ, ℤ, pos, negsuc}

-- the number, or 0 where it is negative
abbrev pub natural : ℤ → ℕ
natural (pos n) = n
natural (negsuc n) = 0

-- the greatest number of 32 bits: no text has more characters
abbrev pub greatest_count : ℕ
greatest_count = 0xFFFFFFFF
