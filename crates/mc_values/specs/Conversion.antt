-- The value of CONVERT and of CAST to a set: MySQL 8.0 manual, 12.10.
use Rattle.std.specs.Prelude.{ℕ, not, ◌&&◌, List, Option, Some, option_and_then}
use Rattle.std.specs.Prelude.{if◌then◌else◌}
use Rattle.mc_charset.specs.declared.charset.Charset.{Charset}
use Rattle.mc_convert.specs.Conversion.{converted_text, is_binary, taken_for}
use Rattle.mc_values.specs.Values.{within_limit}

-- the text in another set: bytes of binary are taken for a text of the set, if they are one; any
-- other text is converted
abbrev pub in_set : Charset → Charset → List ℕ → Option (List ℕ)
in_set from to text =
    if is_binary from && not (is_binary to) then taken_for to text
    else Some (converted_text from to text)

-- the value: NULL where the bytes are no text, or where it would be too long
unfoldable pub conversion : Charset → Charset → List ℕ → Option (List ℕ)
conversion from to text = option_and_then within_limit (in_set from to text)
