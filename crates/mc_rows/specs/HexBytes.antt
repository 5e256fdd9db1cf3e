-- Bytes written as pairs of hexadecimal digits, in upper or lower case: MySQL 8.0 manual, 9.1.4.
use Rattle.std.specs.Prelude.{ℕ, ◌+◌, ◌-◌, ◌*◌, List, [], ◌∷◌, ◌++◌, length, replicate, Option}
use Rattle.std.specs.Prelude.{Some, None, option_map, option_and_then}
use Rattle.mc_base.specs.Hex.{hex_digit}

-- the byte that two digits write, if both are digits
abbrev pub pair_byte : ℕ → ℕ → Option ℕ
pair_byte high low =
    option_and_then (λ sixteens. option_map (λ ones. 16 * sixteens + ones) (hex_digit low))
    (hex_digit high)

-- the bytes that pairs of digits write, if all are such pairs
unfoldable pub hex_bytes : List ℕ → Option (List ℕ)
hex_bytes [] = Some []
hex_bytes (digit ∷ []) = None
hex_bytes (high ∷ low ∷ digits) =
    option_and_then (λ byte. option_map (λ bytes. byte ∷ bytes) (hex_bytes digits))
    (pair_byte high low)

-- bytes with zeros behind them, up to a length
unfoldable pub padded : ℕ → List ℕ → List ℕ
padded len bytes = bytes ++ replicate (len - length bytes) 0
