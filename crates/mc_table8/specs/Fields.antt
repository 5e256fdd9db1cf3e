-- The fields of a line of weights: words, signs, hexadecimal numbers and ranges of them.
use Rattle.std.specs.Prelude.{ℕ, Bool, ◌==◌, ◌&&◌, nat_le, List, ◌∷◌, length, take, drop, codes}
use Rattle.std.specs.Prelude.{position, Option, Some, None, option_map, if◌then◌else◌}
use Rattle.std.specs.Str.{bytes_eq}
use Rattle.std.specs.Option.{option_and_then, option_map_or}
use Rattle.mc_base.specs.Hex.{hex_number_of}
use Rattle.mc_table8.specs.declared.field.Field.{Field}
use Rattle.mc_table8.specs.declared.field.Field.TheVariants.{DefaultWord, Equals, AtSign, Number}
use Rattle.mc_table8.specs.declared.field.Field.TheVariants.{Range, Other}

-- the number of hexadecimal digits, of which there are at most so many
abbrev pub number_of : ℕ → List ℕ → Option ℕ
number_of digits field = if nat_le (length field) digits then hex_number_of field else None

-- whether a byte is a dot
abbrev pub is_dot : ℕ → Bool
is_dot byte = byte == 46

-- what stands behind two dots
abbrev pub behind_dots : List ℕ → Option (List ℕ)
behind_dots (one ∷ other ∷ rest) = if is_dot one && is_dot other then Some rest else None
behind_dots _ = None

-- what stands before the first dot, and behind it and a second one
abbrev pub parts_of : List ℕ → Option (List ℕ × List ℕ)
parts_of field =
    option_and_then
    (λ dot. option_map (λ last. (take dot field, last)) (behind_dots (drop dot field)))
    (position is_dot field)

-- two numbers, where both are there
abbrev pub both : Option ℕ → Option ℕ → Option (ℕ × ℕ)
both first last = option_and_then (λ a. option_map (λ b. (a, b)) last) first

-- the ends of a range, whose numbers have at most so many digits
abbrev pub range_of : ℕ → List ℕ → Option (ℕ × ℕ)
range_of digits field =
    option_and_then (λ parts. both (number_of digits parts.0) (number_of digits parts.1))
    (parts_of field)

-- the number or range that a field is, if it is one
abbrev pub number_or_range : ℕ → List ℕ → Field
number_or_range digits field =
    option_map_or Number (number_of digits field)
    (option_map_or (λ ends. Range ends.0 ends.1) (range_of digits field) Other)

-- the kind of a field in a file whose numbers have at most so many digits
abbrev pub field_of : ℕ → List ℕ → Field
field_of digits field =
    if bytes_eq field (codes "default") then DefaultWord
    else if bytes_eq field (codes "=") then Equals
    else if bytes_eq field (codes "@") then AtSign
    else number_or_range digits field
