-- The words of a catalog's lines: names, decimal numbers and kinds of collations.
use Rattle.std.specs.Prelude.{ℕ, ◌+◌, ◌-◌, ◌*◌, ◌==◌, ◌&&◌, ◌||◌, min, nat_le, Bool, false, not}
use Rattle.std.specs.Prelude.{List, [], ◌∷◌, length, map, fold, codes, Option, None, Some}
use Rattle.std.specs.Prelude.{option_map, if◌then◌else◌}
use Rattle.std.specs.List.{find, list_all}
use Rattle.std.specs.Char.{is_ascii_alphanumeric, is_ascii_digit, to_ascii_lowercase}
use Rattle.std.specs.Str.{bytes_eq}
use Rattle.mc_catalog.specs.Limits.{greatest_number, longest_name}
use Rattle.mc_catalog.specs.declared.catalog.Kind.{Kind}
use Rattle.mc_catalog.specs.declared.catalog.Kind.TheVariants.{Table8, General, Uca400, Uca520}
use Rattle.mc_catalog.specs.declared.catalog.Kind.TheVariants.{Uca900AiCi, Uca900AsCi, Uca900AsCs}

-- The bytes `_`, `$` and `0`.
abbrev pub underscore : ℕ
underscore = 0x5F

abbrev pub dollar : ℕ
dollar = 0x24

abbrev pub digit_zero : ℕ
digit_zero = 0x30

-- A letter, a digit, `_` or `$`.
abbrev pub is_name_byte : ℕ → Bool
is_name_byte byte = is_ascii_alphanumeric byte || byte == underscore || byte == dollar

-- Whether a text's first byte is a digit.
abbrev pub begins_with_digit : List ℕ → Bool
begins_with_digit [] = false
begins_with_digit (byte ∷ bytes) = is_ascii_digit byte

-- Whether a field is a name: 1 to 64 letters, digits, `_` or `$`, the first of them no digit.
abbrev pub is_name : List ℕ → Bool
is_name field =
    nat_le 1 (length field) && nat_le (length field) longest_name && not (begins_with_digit field)
    && list_all is_name_byte field

-- The name that a field is, in lower case.
unfoldable pub field_name : List ℕ → Option (List ℕ)
field_name field = if is_name field then Some (map to_ascii_lowercase field) else None

-- Whether a text's first byte is the digit 0.
abbrev pub begins_with_zero : List ℕ → Bool
begins_with_zero [] = false
begins_with_zero (byte ∷ bytes) = byte == digit_zero

-- Whether a field is a decimal number: digits, with no 0 before another one.
abbrev pub is_decimal : List ℕ → Bool
is_decimal field =
    nat_le 1 (length field) && not (begins_with_zero field && nat_le 2 (length field)) && list_all
    is_ascii_digit field

-- The value of decimal digits.
abbrev pub decimal_value : List ℕ → ℕ
decimal_value digits = fold (λ value digit. 10 * value + (digit - digit_zero)) 0 digits

-- The number that a field is; one above 65535, which is above each length, counts as that.
unfoldable pub decimal_of : List ℕ → Option ℕ
decimal_of field =
    if is_decimal field then Some (min greatest_number (decimal_value field)) else None

-- The length that a field is, from 1 to a limit.
unfoldable pub length_of : ℕ → List ℕ → Option ℕ
length_of limit field = if_within (decimal_of field)
  where
    if_within : Option ℕ → Option ℕ
    if_within None = None
    if_within (Some n) = if nat_le 1 n && nat_le n limit then Some n else None

-- The words of the kinds.
abbrev pub kind_words : List (List ℕ × Kind)
kind_words =
    (codes "table8", Table8) ∷ (codes "general", General) ∷ (codes "uca400", Uca400)
    ∷ (codes "uca520", Uca520)
    ∷ (codes "uca900_ai_ci", Uca900AiCi) ∷ (codes "uca900_as_ci", Uca900AsCi)
    ∷ (codes "uca900_as_cs", Uca900AsCs) ∷ []

-- The kind that a field names.
unfoldable pub kind_of : List ℕ → Option Kind
kind_of field = option_map (λ row. row.1) (find (λ row. bytes_eq field row.0) kind_words)
