-- Bytes and numbers in hexadecimal digits: MySQL 8.0 manual, 12.8, HEX.
use Rattle.std.specs.Prelude.{ℕ, suc, ◌+◌, ◌-◌, ◌/◌, ◌%◌, ◌^◌, List, [], ◌∷◌, nat_lt}
use Rattle.std.specs.Prelude.{if◌then◌else◌, true, ℤ, pos, negsuc}
use Rattle.std.specs.Fmt.{digits}
use Rattle.std.specs.List.{flat_map}

-- the bytes `0` and `A`
abbrev pub digit_zero : ℕ
digit_zero = 0x30

abbrev pub letter_a : ℕ
letter_a = 0x41

-- a hexadecimal digit, in upper case
abbrev pub hex_digit : ℕ → ℕ
hex_digit value = if nat_lt value 10 then digit_zero + value else letter_a + (value - 10)

-- the two digits of a byte
abbrev pub hex_pair : ℕ → List ℕ
hex_pair byte = hex_digit (byte / 16) ∷ hex_digit (byte % 16) ∷ []

-- two digits for each byte
unfoldable pub hex_digits : List ℕ → List ℕ
hex_digits bytes = flat_map hex_pair bytes

-- a number's two's complement in 64 bits
abbrev pub twos_complement : ℤ → ℕ
twos_complement (pos n) = n
twos_complement (negsuc n) = 2 ^ 64 - suc n

-- the digits of a number's two's complement, in upper case, with no zeros in front; `0` for 0
unfoldable pub number_digits : ℤ → List ℕ
number_digits number = digits 16 true (twos_complement number)
