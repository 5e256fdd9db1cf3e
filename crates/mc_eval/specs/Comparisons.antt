-- Comparisons of values: MySQL 8.0 manual, 12.4.2, and of texts by a collation, 10.8.5.
use Rattle.std.specs.Prelude.{ℕ, Bool, false, ◌&&◌, List, map, Option, Some, None}
use Rattle.std.specs.Prelude.{if◌then◌else◌}
use Rattle.std.specs.Option.{option_map_or}
use Rattle.std.specs.Ordering.{int_cmp, is_eq, is_ge, is_gt, is_le, is_lt, is_ne}
use Rattle.std.specs.declared.cmp.Ordering.{Ordering}
use Rattle.mc_ast.specs.declared.operators.CmpOp.{CmpOp}
use Rattle.mc_ast.specs.declared.operators.CmpOp.TheVariants.{Eq, NullEq, Ne, Lt, Le, Gt, Ge}
use Rattle.mc_charset.specs.declared.collation_id.CollId.{CollId}
use Rattle.mc_order.specs.Meaning.{Meaning, flat_list}
use Rattle.mc_order.specs.Order.{list_order}
use Rattle.mc_values.specs.declared.value.Value.{Value}
use Rattle.mc_values.specs.declared.value.Value.TheVariants as value
use Rattle.mc_eval.specs.Texts.{chars_in, is_null}
use Rattle.mc_eval.specs.Truths.{any_of, known}
use Rattle.mc_eval.specs.declared.truth.Truth.{Truth}
use Rattle.mc_eval.specs.declared.truth.Truth.TheVariants.{Unknown, Yes}

-- The weights of a text, in the set of the collation.
abbrev pub weights : Meaning → Value → List ℕ
weights m it = flat_list m (chars_in m.charset it)

-- The order of two texts by a collation: that of their weights.
abbrev pub text_order : Meaning → Value → Value → Ordering
text_order m one other = list_order m.pad m.space (weights m one) (weights m other)

-- The order of two texts, where they are compared by a collation.
abbrev pub text_order_by : (ℕ → Meaning) → Option CollId → Value → Value → Option Ordering
text_order_by meaning None one other = None
text_order_by meaning (Some id) one other = Some (text_order (meaning id.0) one other)

-- The order of two numbers or two texts; none where a side is NULL.
abbrev pub value_order : (ℕ → Meaning) → Option CollId → Value → Value → Option Ordering
value_order meaning coll (value.Int x) (value.Int y) = Some (int_cmp x y)
value_order meaning coll (value.Str one text) (value.Str other more) =
    text_order_by meaning coll (value.Str one text) (value.Str other more)
value_order meaning coll one other = None

-- The comparison holds of sides in this order.
abbrev pub holds : CmpOp → Ordering → Bool
holds Eq order = is_eq order
holds NullEq order = is_eq order
holds Ne order = is_ne order
holds Lt order = is_lt order
holds Le order = is_le order
holds Gt order = is_gt order
holds Ge order = is_ge order

-- A comparison, which is NULL where a side is.
abbrev pub usual : (ℕ → Meaning) → Option CollId → CmpOp → Value → Value → Truth
usual meaning coll op one other =
    option_map_or (λ order. known (holds op order)) (value_order meaning coll one other) Unknown

-- The same, or `<=>`, to which NULL equals NULL alone.
abbrev pub compared : (ℕ → Meaning) → Option CollId → CmpOp → Value → Value → Truth
compared meaning coll NullEq one other = if is_null one && is_null other then Yes
    else known (option_map_or is_eq (value_order meaning coll one other) false)
compared meaning coll op one other = usual meaning coll op one other

-- IN: the equalities of the first with the others, joined by OR.
abbrev pub is_among : (ℕ → Meaning) → Option CollId → Value → List Value → Truth
is_among meaning coll it members = any_of (map (compared meaning coll Eq it) members)
