-- Values as the cells of a line: this engine's own convention.
use Rattle.std.specs.Prelude.{ℕ, List, ◌++◌, if◌then◌else◌, codes}
use Rattle.std.specs.Fmt.{signed_decimal}
use Rattle.mc_charset.specs.declared.charset.Charset.{Charset}
use Rattle.mc_charset.specs.declared.charset.Charset.TheVariants.{Utf8mb4}
use Rattle.mc_convert.specs.Conversion.{converted_text, is_binary}
use Rattle.mc_print.specs.Escapes.{as_written}
use Rattle.mc_values.specs.Hexadecimal.{hex_digits}
use Rattle.mc_values.specs.declared.value.Value.{Value}
use Rattle.mc_values.specs.declared.value.Value.TheVariants.{Null, Int, Str}

-- a text of a set: bytes in hexadecimal digits behind `0x`, characters in UTF-8
abbrev pub text_cell : Charset → List ℕ → List ℕ
text_cell set text =
    if is_binary set then codes "0x" ++ hex_digits text
    else as_written (converted_text set Utf8mb4 text)

-- a value; a number in decimal digits
unfoldable pub cell : Value → List ℕ
cell Null = codes "NULL"
cell (Int number) = signed_decimal number
cell (Str set text) = text_cell set text
