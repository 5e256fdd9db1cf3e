-- Functions, conversions and weight strings give values of their types.
use Rattle.std.proofs.Common.{ℕ, List, [], ◌∷◌, Option, Some}
use Rattle.std.proofs.Common.{None, refl}
use Rattle.std.proofs.lemmas.Bool.{cond_both}
use Rattle.mc_ast.specs.declared.operators.Cut.{Cut}
use Rattle.mc_catalog.specs.declared.catalog.Catalog.{Catalog}
use Rattle.mc_charset.specs.declared.charset.Charset.{Charset}
use Rattle.mc_charset.specs.declared.charset.Charset.TheVariants.{Binary}
use Rattle.mc_coerce.specs.declared.operand.Operand.{Operand}
use Rattle.mc_order.specs.Meaning.{Meaning}
use Rattle.mc_typing.specs.Sound.{IsMadeOf, IsResult}
use Rattle.mc_typing.specs.declared.typed.Func.{Func}
use Rattle.mc_typing.specs.declared.typed.Func.TheVariants as func
use Rattle.mc_typing.specs.declared.typed.Ty.{Ty}
use Rattle.mc_typing.specs.declared.typed.Ty.TheVariants as ty
use Rattle.mc_values.specs.declared.value.Value.{Value}
use Rattle.mc_values.specs.declared.value.Value.TheVariants as value
use Rattle.mc_eval.specs.Functions.{applied, called, char_length_value, converted_to, digits_of}
use Rattle.mc_eval.specs.Functions.{byte_length, char_length}
use Rattle.mc_eval.specs.Functions.{hex_value, length_value, mod_value, needed, number_text}
use Rattle.mc_eval.specs.Functions.{rest_of, sign_between, strcmp_value, text_call, text_function}
use Rattle.mc_eval.specs.TextFunctions.{concat_ws_value, left_value, lpad_value, repeat_value}
use Rattle.mc_eval.specs.TextFunctions.{replace_value, reverse_value, right_value, rpad_value}
use Rattle.mc_eval.specs.TextFunctions.{substring_value, trim_value}
use Rattle.mc_eval.specs.Texts.{is_null}
use Rattle.mc_eval.specs.Typed.{HasType}
use Rattle.mc_eval.specs.Weights.{weighed}
use Rattle.mc_strfun.specs.declared.trimming.Side.{Side}
use Rattle.mc_strfun.specs.declared.trimming.Side.TheVariants.{Both, Leading, Trailing}
use Rattle.std.specs.List.{list_any}
use Rattle.mc_typing.specs.OfType.{IsTextIn}
use Rattle.mc_eval.proofs.Types.{int_value, remainder_int, spelled_type, text_type}

pub substring_type : (set : Charset) (type : Ty) → IsTextIn set type → (values : List Value)
    → HasType type (substring_value set values)
substring_type set type h (x ∷ first ∷ []) = spelled_type set type h _
substring_type set type h (x ∷ first ∷ count ∷ []) = spelled_type set type h _
substring_type set type h values = tt

pub left_type : (set : Charset) (type : Ty) → IsTextIn set type → (values : List Value)
    → HasType type (left_value set values)
left_type set type h (x ∷ n ∷ []) = spelled_type set type h _
left_type set type h values = tt

pub right_type : (set : Charset) (type : Ty) → IsTextIn set type → (values : List Value)
    → HasType type (right_value set values)
right_type set type h (x ∷ n ∷ []) = spelled_type set type h _
right_type set type h values = tt

pub repeat_type : (set : Charset) (type : Ty) → IsTextIn set type → (values : List Value)
    → HasType type (repeat_value set values)
repeat_type set type h (x ∷ n ∷ []) = spelled_type set type h _
repeat_type set type h values = tt

pub trim_type : (side : Side) (set : Charset) (type : Ty) → IsTextIn set type
    → (values : List Value) → HasType type (trim_value side set values)
trim_type side set type h (x ∷ []) = spelled_type set type h _
trim_type side set type h (removed ∷ x ∷ []) = spelled_type set type h _
trim_type side set type h values = tt

pub lpad_type : (set : Charset) (type : Ty) → IsTextIn set type → (values : List Value)
    → HasType type (lpad_value set values)
lpad_type set type h (x ∷ n ∷ pad ∷ []) = text_type set type h _
lpad_type set type h values = tt

pub rpad_type : (set : Charset) (type : Ty) → IsTextIn set type → (values : List Value)
    → HasType type (rpad_value set values)
rpad_type set type h (x ∷ n ∷ pad ∷ []) = text_type set type h _
rpad_type set type h values = tt

pub reverse_type : (set : Charset) (type : Ty) → IsTextIn set type → (values : List Value)
    → HasType type (reverse_value set values)
reverse_type set type h (x ∷ []) = spelled_type set type h _
reverse_type set type h values = tt

pub replace_type : (set : Charset) (type : Ty) → IsTextIn set type → (values : List Value)
    → HasType type (replace_value set values)
replace_type set type h (x ∷ from ∷ to ∷ []) = spelled_type set type h _
replace_type set type h values = tt

pub concat_ws_type : (set : Charset) (type : Ty) → IsTextIn set type → (values : List Value)
    → HasType type (concat_ws_value set values)
concat_ws_type set type h [] = tt
concat_ws_type set type h (separator ∷ values) = spelled_type set type h _

pub function_type : (name : Func) (set : Charset) (type : Ty) → IsTextIn set type
    → (values : List Value) → HasType type (text_function name set values)
function_type func.Concat set type h values = spelled_type set type h _
function_type func.ConcatWs set type h values = concat_ws_type set type h values
function_type func.Substring set type h values = substring_type set type h values
function_type func.Left set type h values = left_type set type h values
function_type func.Right set type h values = right_type set type h values
function_type func.TrimBoth set type h values = trim_type Both set type h values
function_type func.TrimLeading set type h values = trim_type Leading set type h values
function_type func.TrimTrailing set type h values = trim_type Trailing set type h values
function_type func.Lpad set type h values = lpad_type set type h values
function_type func.Rpad set type h values = rpad_type set type h values
function_type func.Repeat set type h values = repeat_type set type h values
function_type func.Reverse set type h values = reverse_type set type h values
function_type func.Replace set type h values = replace_type set type h values
function_type _ set type h values = tt

pub made_type : (a : Operand) (type : Ty) → IsMadeOf (Some a) type → IsTextIn a.charset type
made_type a ty.Null h = absurd h
made_type a ty.Int h = absurd h
made_type a (ty.Str b) h = h.0

of_char_length : (it : Value) → HasType ty.Int (char_length it)
of_char_length (value.Str set text) = tt
of_char_length it = tt

pub char_length_int : (values : List Value) → HasType ty.Int (char_length_value values)
char_length_int (it ∷ []) = of_char_length it
char_length_int values = tt

of_byte_length : (it : Value) → HasType ty.Int (byte_length it)
of_byte_length (value.Str set text) = tt
of_byte_length it = tt

pub length_int : (values : List Value) → HasType ty.Int (length_value values)
length_int (it ∷ []) = of_byte_length it
length_int values = tt

rest_int : (one other : Value) → HasType ty.Int (rest_of one other)
rest_int (value.Int x) (value.Int y) = remainder_int x y
rest_int one other = tt

pub mod_int : (values : List Value) → HasType ty.Int (mod_value values)
mod_int (one ∷ other ∷ []) = rest_int one other
mod_int values = tt

sign_int : (m : Meaning) (one other : Value) → HasType ty.Int (sign_between m one other)
sign_int m (value.Str one text) (value.Str other more) = tt
sign_int m one other = tt

pub strcmp_int : (meaning : ℕ → Meaning) (uses : Option Operand) (values : List Value)
    → HasType ty.Int (strcmp_value meaning uses values)
strcmp_int meaning (Some uses) (one ∷ other ∷ []) =
    sign_int (meaning uses.collation.0) one other
strcmp_int meaning uses values = tt

pub digits_type : (a : Operand) (it : Value) → HasType (ty.Str a) (digits_of a.charset it)
digits_type a value.Null = tt
digits_type a (value.Int number) = spelled_type a.charset (ty.Str a) refl _
digits_type a (value.Str from text) = text_type a.charset (ty.Str a) refl _

pub hex_type : (type : Ty) (values : List Value) → HasType type (hex_value type values)
hex_type (ty.Str a) (it ∷ []) = digits_type a it
hex_type type values = tt

pub text_call_type : (c : Catalog) (name : Func) (uses : Option Operand) (type : Ty)
    → IsMadeOf uses type → (values : List Value)
    → HasType type (text_call name uses values)
text_call_type c name None type h values = absurd h
text_call_type c name (Some a) type h values =
    function_type name a.charset type (made_type a type h) values

pub applied_type : (c : Catalog) (meaning : ℕ → Meaning) (name : Func) (uses : Option Operand)
    (type : Ty) → IsResult c name uses type → (values : List Value)
    → HasType type (applied meaning name uses type values)
applied_type c meaning func.CharLength uses type h values =
    int_value type (char_length_value values) h.1 (char_length_int values)
applied_type c meaning func.Length uses type h values =
    int_value type (length_value values) h.1 (length_int values)
applied_type c meaning func.Hex uses type h values = hex_type type values
applied_type c meaning func.Strcmp uses type h values =
    int_value type (strcmp_value meaning uses values) h.1 (strcmp_int meaning uses values)
applied_type c meaning func.Mod uses type h values =
    int_value type (mod_value values) h.1 (mod_int values)
applied_type c meaning func.Concat uses type h values =
    text_call_type c func.Concat uses type h.1 values
applied_type c meaning func.ConcatWs uses type h values =
    text_call_type c func.ConcatWs uses type h.1 values
applied_type c meaning func.Substring uses type h values =
    text_call_type c func.Substring uses type h.1 values
applied_type c meaning func.Left uses type h values =
    text_call_type c func.Left uses type h.1 values
applied_type c meaning func.Right uses type h values =
    text_call_type c func.Right uses type h.1 values
applied_type c meaning func.TrimBoth uses type h values =
    text_call_type c func.TrimBoth uses type h.1 values
applied_type c meaning func.TrimLeading uses type h values =
    text_call_type c func.TrimLeading uses type h.1 values
applied_type c meaning func.TrimTrailing uses type h values =
    text_call_type c func.TrimTrailing uses type h.1 values
applied_type c meaning func.Lpad uses type h values =
    text_call_type c func.Lpad uses type h.1 values
applied_type c meaning func.Rpad uses type h values =
    text_call_type c func.Rpad uses type h.1 values
applied_type c meaning func.Repeat uses type h values =
    text_call_type c func.Repeat uses type h.1 values
applied_type c meaning func.Reverse uses type h values =
    text_call_type c func.Reverse uses type h.1 values
applied_type c meaning func.Replace uses type h values =
    text_call_type c func.Replace uses type h.1 values

pub called_type : (c : Catalog) (meaning : ℕ → Meaning) (name : Func) (uses : Option Operand)
    (type : Ty) → IsResult c name uses type → (values : List Value)
    → HasType type (called meaning name uses type values)
called_type c meaning name uses type h values =
    cond_both (list_any is_null (needed name values)) value.Null
    (applied meaning name uses type values) (HasType type) (λ e. tt)
    (λ e. applied_type c meaning name uses type h values)

-- Conversions and weights

pub number_text_type : (set : Charset) (type : Ty) → IsTextIn set type → (it : Value)
    → HasType type (number_text set it)
number_text_type set type h (value.Int number) = spelled_type set type h _
number_text_type set type h it = tt

pub converted_type : (set : Charset) (type : Ty) → IsTextIn set type → (it : Value)
    → HasType type (converted_to set it)
converted_type set type h (value.Str from text) = text_type set type h _
converted_type set type h it = tt

pub weighed_type : (meaning : ℕ → Meaning) (cut : Option Cut) (of type : Ty) → IsTextIn Binary type
    → (it : Value) → HasType type (weighed meaning cut of it)
weighed_type meaning cut (ty.Str a) type h (value.Str set text) = text_type Binary type h _
weighed_type meaning cut (ty.Str a) type h it = tt
weighed_type meaning cut of type h it = tt
