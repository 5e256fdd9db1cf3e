-- WEIGHT_STRING of an operand by the collation of its type: MySQL 8.0 manual, 12.8.
use Rattle.std.specs.Prelude.{ℕ, min, ℤ, Option, Some, None}
use Rattle.mc_ast.specs.declared.operators.Cut.{Cut}
use Rattle.mc_ast.specs.declared.operators.Cut.TheVariants as cut
use Rattle.mc_charset.specs.declared.charset.Charset.TheVariants.{Binary}
use Rattle.mc_key.specs.WeightString.{weight_string}
use Rattle.mc_key.specs.declared.weight_form.WeightForm.{WeightForm}
use Rattle.mc_key.specs.declared.weight_form.WeightForm.TheVariants.{Plain, Chars, Bytes}
use Rattle.mc_order.specs.Meaning.{Meaning}
use Rattle.mc_strfun.specs.Numbers.{greatest_count, natural}
use Rattle.mc_typing.specs.declared.typed.Ty.{Ty}
use Rattle.mc_typing.specs.declared.typed.Ty.TheVariants as ty
use Rattle.mc_values.specs.declared.value.Value.{Value}
use Rattle.mc_values.specs.declared.value.Value.TheVariants as value
use Rattle.mc_eval.specs.Texts.{text_in, text_or_null}

-- A length that a typed expression has is above 0 and far below the greatest count.
abbrev pub count_of : ℤ → ℕ
count_of n = min (natural n) greatest_count

-- The form that is asked for.
abbrev pub form_of : Option Cut → WeightForm
form_of None = Plain
form_of (Some (cut.Chars n)) = Chars (count_of n)
form_of (Some (cut.Bytes n)) = Bytes (count_of n)

-- The weight string of a text by a collation.
abbrev pub weighed_by : Meaning → WeightForm → Value → Value
weighed_by m form (value.Str set text) =
    text_or_null Binary (weight_string m form (text_in m.charset (value.Str set text)))
weighed_by m form it = value.Null

-- The weight string of an operand of a type.
abbrev pub weighed : (ℕ → Meaning) → Option Cut → Ty → Value → Value
weighed meaning asked (ty.Str operand) it =
    weighed_by (meaning operand.collation.0) (form_of asked) it
weighed meaning asked other it = value.Null
