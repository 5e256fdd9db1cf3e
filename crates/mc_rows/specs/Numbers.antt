-- Whole numbers in a file of rows: this engine's own convention, in the range of MySQL's bigint
-- (8.0 manual, 11.1.2).
use Rattle.std.specs.Prelude.{ℕ, ℤ, ◌+◌, ◌&&◌, Bool, List, Option, Some, None, length, drop, nat_le}
use Rattle.std.specs.Prelude.{option_map, pos, neg_ℤ, if◌then◌else◌}
use Rattle.std.specs.Char.{is_ascii_digit}
use Rattle.std.specs.List.{list_all}
use Rattle.std.specs.Str.Parse.{digits_value, starts_with_minus}

-- the greatest bigint
abbrev pub greatest_bigint : ℕ
greatest_bigint = 9223372036854775807

-- Whether a text is one decimal digit or more, and nothing else.
abbrev pub are_digits : List ℕ → Bool
are_digits text = nat_le 1 (length text) && list_all is_ascii_digit text

-- the number that decimal digits write, if it is at most so great
unfoldable pub magnitude : ℕ → List ℕ → Option ℕ
magnitude most digits =
    if are_digits digits && nat_le (digits_value 10 digits) most then Some (digits_value 10 digits)
    else None

-- a number with its sign turned
abbrev pub negative : ℕ → ℤ
negative size = neg_ℤ (pos size)

-- the bigint that an optional `-` and digits write
unfoldable pub bigint_of : List ℕ → Option ℤ
bigint_of field =
    if starts_with_minus field
    then option_map negative (magnitude (greatest_bigint + 1) (drop 1 field))
    else option_map pos (magnitude greatest_bigint field)
