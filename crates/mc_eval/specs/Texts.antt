-- Texts among the operands of an operation, and the texts that it gives: MySQL 8.0 manual, 10.8.4.
use Rattle.std.specs.Prelude.{ℕ, Bool, true, false, ℤ, pos, List, [], Option, Some, None}
use Rattle.mc_charset.specs.Chars.{chars}
use Rattle.mc_charset.specs.declared.charset.Charset.{Charset}
use Rattle.mc_convert.specs.Conversion.{converted_text}
use Rattle.mc_strfun.specs.Joins.{spelled_within}
use Rattle.mc_values.specs.declared.value.Value.{Value}
use Rattle.mc_values.specs.declared.value.Value.TheVariants as value

abbrev pub is_null : Value → Bool
is_null value.Null = true
is_null it = false

-- The text of an operand in the set of its operation, as long as it may be.
abbrev pub text_in : Charset → Value → List ℕ
text_in set (value.Str from text) = converted_text from set text
text_in set it = []

-- Its characters.
abbrev pub chars_in : Charset → Value → List ℕ
chars_in set it = chars set (text_in set it)

-- The number of an operand.
abbrev pub number_in : Value → ℤ
number_in (value.Int number) = number
number_in it = pos 0

-- The text of a set that an operation gives, which is NULL where there is none.
abbrev pub text_or_null : Charset → Option (List ℕ) → Value
text_or_null set None = value.Null
text_or_null set (Some text) = value.Str set text

-- The text that these characters spell, which is NULL where it would be too long.
abbrev pub spelled : Charset → List ℕ → Value
spelled set codes = text_or_null set (spelled_within set codes)
