-- Whole numbers: MySQL 8.0 manual, 9.1.2.
use Rattle.std.specs.Prelude.{ℕ, ℤ, pos, not, nat_le, List, Option, Some, None, unwrap_or}
use Rattle.std.specs.Prelude.{length}
use Rattle.std.specs.Prelude.{position, if◌then◌else◌}
use Rattle.std.specs.Char.{is_ascii_digit}
use Rattle.std.specs.Str.Parse.{digits_value}

-- The greatest number that is a token.
abbrev pub greatest_int : ℕ
greatest_int = 9223372036854775807

-- How many decimal digits the bytes begin with.
abbrev pub decimals_len : List ℕ → ℕ
decimals_len bytes = unwrap_or (position (λ byte. not (is_ascii_digit byte)) bytes) (length bytes)

-- The number that digits write, where it isn't too great.
abbrev pub int_of : List ℕ → Option ℤ
int_of digits =
    if nat_le (digits_value 10 digits) greatest_int then Some (pos (digits_value 10 digits))
    else None
