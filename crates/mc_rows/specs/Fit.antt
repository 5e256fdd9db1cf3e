-- A text as the value of a text column: MySQL 8.0 manual, 11.3.2.
use Rattle.std.specs.Prelude.{ℕ, List, length, nat_le, Option, Some, None, Result, Ok, Err}
use Rattle.std.specs.Prelude.{if◌then◌else◌}
use Rattle.mc_charset.specs.Chars.{chars, spell_all}
use Rattle.mc_charset.specs.declared.charset.Charset.{Charset}
use Rattle.mc_convert.specs.Conversion.{is_binary}
use Rattle.mc_rows.specs.declared.fit.FitFault.{FitFault}
use Rattle.mc_rows.specs.declared.fit.FitFault.TheVariants.{Unfit, TooLong}

-- the characters that a set takes from a text: for binary its bytes
abbrev pub taken_chars : Charset → Charset → List ℕ → List ℕ
taken_chars from to text = chars (if is_binary to then to else from) text

-- a text of at most so many characters, if there is one
abbrev pub within : ℕ → ℕ → Option (List ℕ) → Result (List ℕ) FitFault
within most count None = Err Unfit
within most count (Some text) = if nat_le count most then Ok text else Err TooLong

-- The text that these characters spell in the column's set; it is refused where the set lacks one
-- of them, else where there are more than so many.
unfoldable pub fitted : Charset → Charset → ℕ → List ℕ → Result (List ℕ) FitFault
fitted from to most text =
    within most (length (taken_chars from to text)) (spell_all to (taken_chars from to text))
