-- Functions over the operands of a call: MySQL 8.0 manual, 12.6.2, 12.8 and 12.10.
use Rattle.std.specs.Prelude.{ℕ, ℤ, pos, negsuc, List, [], ◌∷◌, Option, Some, None}
use Rattle.std.specs.Prelude.{length, option_and_then, take, if◌then◌else◌}
use Rattle.std.specs.Fmt.{signed_decimal}
use Rattle.std.specs.List.{list_any}
use Rattle.std.specs.declared.cmp.Ordering.{Ordering}
use Rattle.std.specs.declared.cmp.Ordering.TheVariants.{Less, Equal, Greater}
use Rattle.mc_charset.specs.Chars.{chars}
use Rattle.mc_charset.specs.declared.charset.Charset.{Charset}
use Rattle.mc_coerce.specs.declared.operand.Operand.{Operand}
use Rattle.mc_order.specs.Meaning.{Meaning}
use Rattle.mc_strfun.specs.Joins.{spelled_within}
use Rattle.mc_strfun.specs.declared.trimming.Side.TheVariants.{Both, Leading, Trailing}
use Rattle.mc_typing.specs.declared.typed.Func.{Func}
use Rattle.mc_typing.specs.declared.typed.Func.TheVariants as func
use Rattle.mc_typing.specs.declared.typed.Ty.{Ty}
use Rattle.mc_typing.specs.declared.typed.Ty.TheVariants as ty
use Rattle.mc_values.specs.Conversion.{conversion}
use Rattle.mc_values.specs.Hexadecimal.{hex_digits, number_digits}
use Rattle.mc_values.specs.Values.{within_limit}
use Rattle.mc_values.specs.declared.value.Value.{Value}
use Rattle.mc_values.specs.declared.value.Value.TheVariants as value
use Rattle.mc_eval.specs.Arithmetic.{remainder}
use Rattle.mc_eval.specs.Comparisons.{text_order}
use Rattle.mc_eval.specs.TextFunctions.{concat_value, concat_ws_value, left_value, lpad_value}
use Rattle.mc_eval.specs.TextFunctions.{repeat_value, replace_value, reverse_value, right_value}
use Rattle.mc_eval.specs.TextFunctions.{rpad_value, substring_value, trim_value}
use Rattle.mc_eval.specs.Texts.{is_null, spelled, text_or_null}

-- A function that gives a text of the set that its texts have together.
abbrev pub text_function : Func → Charset → List Value → Value
text_function func.Concat = concat_value
text_function func.ConcatWs = concat_ws_value
text_function func.Substring = substring_value
text_function func.Left = left_value
text_function func.Right = right_value
text_function func.TrimBoth = trim_value Both
text_function func.TrimLeading = trim_value Leading
text_function func.TrimTrailing = trim_value Trailing
text_function func.Lpad = lpad_value
text_function func.Rpad = rpad_value
text_function func.Repeat = repeat_value
text_function func.Reverse = reverse_value
text_function func.Replace = replace_value
text_function function = λ set values. value.Null

-- CHAR_LENGTH and LENGTH: characters and bytes.
abbrev pub char_length : Value → Value
char_length (value.Str set text) = value.Int (pos (length (chars set text)))
char_length it = value.Null

abbrev pub char_length_value : List Value → Value
char_length_value (it ∷ []) = char_length it
char_length_value values = value.Null

abbrev pub byte_length : Value → Value
byte_length (value.Str set text) = value.Int (pos (length text))
byte_length it = value.Null

abbrev pub length_value : List Value → Value
length_value (it ∷ []) = byte_length it
length_value values = value.Null

-- HEX in a set, of the bytes of a text or of a number; its digits are held to the greatest length
-- before they are in the set, and again in it.
abbrev pub digits_of : Charset → Value → Value
digits_of set value.Null = value.Null
digits_of set (value.Int number) = spelled set (number_digits number)
digits_of set (value.Str from text) =
    text_or_null set (option_and_then (spelled_within set) (within_limit (hex_digits text)))

abbrev pub hex_value : Ty → List Value → Value
hex_value (ty.Str operand) (it ∷ []) = digits_of operand.charset it
hex_value type values = value.Null

-- STRCMP: -1, 0 or 1, by the collation that its texts have together.
abbrev pub sign_of : Ordering → ℤ
sign_of Less = negsuc 0
sign_of Equal = pos 0
sign_of Greater = pos 1

abbrev pub sign_between : Meaning → Value → Value → Value
sign_between m (value.Str one text) (value.Str other more) =
    value.Int (sign_of (text_order m (value.Str one text) (value.Str other more)))
sign_between m one other = value.Null

abbrev pub strcmp_value : (ℕ → Meaning) → Option Operand → List Value → Value
strcmp_value meaning (Some uses) (one ∷ other ∷ []) =
    sign_between (meaning uses.collation.0) one other
strcmp_value meaning uses values = value.Null

-- MOD, as `%`.
abbrev pub rest_of : Value → Value → Value
rest_of (value.Int x) (value.Int y) = remainder x y
rest_of one other = value.Null

abbrev pub mod_value : List Value → Value
mod_value (one ∷ other ∷ []) = rest_of one other
mod_value values = value.Null

abbrev pub text_call : Func → Option Operand → List Value → Value
text_call function (Some uses) values = text_function function uses.charset values
text_call function None values = value.Null

-- A function of operands that don't make it NULL.
abbrev pub applied : (ℕ → Meaning) → Func → Option Operand → Ty → List Value → Value
applied meaning func.CharLength uses type values = char_length_value values
applied meaning func.Length uses type values = length_value values
applied meaning func.Hex uses type values = hex_value type values
applied meaning func.Strcmp uses type values = strcmp_value meaning uses values
applied meaning func.Mod uses type values = mod_value values
applied meaning function uses type values = text_call function uses values

-- The operands that make a call NULL where they are: all, but those behind the first of CONCAT_WS.
abbrev pub needed : Func → List Value → List Value
needed func.ConcatWs values = take 1 values
needed function values = values

abbrev pub called : (ℕ → Meaning) → Func → Option Operand → Ty → List Value → Value
called meaning function uses type values = if list_any is_null (needed function values)
    then value.Null else applied meaning function uses type values

-- The digits of a number as a text of a set.
abbrev pub number_text : Charset → Value → Value
number_text set (value.Int number) = spelled set (signed_decimal number)
number_text set it = value.Null

-- CONVERT and CAST to a set.
abbrev pub converted_to : Charset → Value → Value
converted_to set (value.Str from text) = text_or_null set (conversion from set text)
converted_to set it = value.Null
