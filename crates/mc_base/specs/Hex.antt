-- Hexadecimal numbers of one to six digits, in upper or lower case.
use Rattle.std.specs.Prelude.{ℕ, ◌+◌, ◌-◌, ◌*◌, ◌&&◌, nat_le, List, length, Option, None, Some}
use Rattle.std.specs.Prelude.{option_map, fold, if◌then◌else◌}
use Rattle.std.specs.Option.{option_and_then}

-- the value of a hexadecimal digit, by its ASCII code
abbrev pub hex_digit : ℕ → Option ℕ
hex_digit code =
    if nat_le 48 code && nat_le code 57 then Some (code - 48)
    else if nat_le 65 code && nat_le code 70 then Some (code - 55)
    else if nat_le 97 code && nat_le code 102 then Some (code - 87)
    else None

-- a number with one more digit behind it, if both are there
abbrev pub with_digit : Option ℕ → ℕ → Option ℕ
with_digit number code =
    option_and_then (λ n. option_map (λ digit. 16 * n + digit) (hex_digit code)) number

-- the value of digits, if each is one
abbrev pub hex_value : List ℕ → Option ℕ
hex_value digits = fold with_digit (Some 0) digits

-- the number of one to six hexadecimal digits
abbrev pub hex_number_of : List ℕ → Option ℕ
hex_number_of digits =
    if nat_le 1 (length digits) && nat_le (length digits) 6 then hex_value digits else None
