-- The digits of hexadecimal literals, and their bytes: MySQL 8.0 manual, 9.1.4.
use Rattle.std.specs.Prelude.{ℕ, ◌+◌, ◌*◌, ◌/◌, ◌%◌, ◌==◌, not, List, []}
use Rattle.std.specs.Prelude.{◌∷◌, unwrap_or, length}
use Rattle.std.specs.Prelude.{map, position, if◌then◌else◌}
use Rattle.std.specs.Char.{is_ascii_hexdigit}
use Rattle.std.specs.List.{flat_map}
use Rattle.mc_base.specs.Hex.{hex_digit}
use Rattle.mc_token.specs.Bytes.{digit_zero}

-- How many hexadecimal digits the bytes begin with.
abbrev pub digits_len : List ℕ → ℕ
digits_len bytes = unwrap_or (position (λ byte. not (is_ascii_hexdigit byte)) bytes) (length bytes)

-- The value of a digit, and 0 for any other byte.
abbrev pub digit_value : ℕ → ℕ
digit_value byte = unwrap_or (hex_digit byte) 0

-- The bytes that pairs of digits stand for, the digit of the sixteens first.
unfoldable pub paired : List ℕ → List ℕ
paired [] = []
paired (digit ∷ []) = []
paired (sixteens ∷ ones ∷ digits) =
    (16 * digit_value sixteens + digit_value ones) ∷ paired digits

-- The bytes that digits stand for: an odd number of them counts as if a 0 stood before it.
abbrev pub bytes_of_digits : List ℕ → List ℕ
bytes_of_digits digits =
    if length digits % 2 == 1 then paired (digit_zero ∷ digits) else paired digits

-- The values of digits, with a 0 before an odd number of them.
abbrev pub values_of : List ℕ → List ℕ
values_of digits =
    if length digits % 2 == 1 then 0 ∷ map digit_value digits else map digit_value digits

-- The values of the two digits of each byte.
abbrev pub two_digits : List ℕ → List ℕ
two_digits bytes = flat_map (λ byte. byte / 16 ∷ byte % 16 ∷ []) bytes
