-- Where columns and aggregates may stand: MySQL 8.0 manual, 12.19.3.
use Rattle.std.specs.Prelude.{ℕ, List, Result, Err, if◌then◌else◌}
use Rattle.mc_base.specs.Results.{result_and_then}
use Rattle.mc_base.specs.declared.refusal.Refusal.{Refusal}
use Rattle.mc_ast.specs.declared.expr.Expr.{Expr}
use Rattle.mc_ast.specs.declared.expr.Form.{Form-F}
use Rattle.mc_typing.specs.declared.place.Place.{Place}
use Rattle.mc_typing.specs.declared.place.Place.TheVariants.{Row, Group, Key}
use Rattle.mc_typing.specs.declared.typed.TypedExpr.{TypedExpr}
use Rattle.mc_typing.specs.Aggregates.{is_aggregate_form}
use Rattle.mc_typing.specs.Likeness.{is_key}
use Rattle.mc_typing.specs.Messages.{not_grouped}

-- A column, where it stands: in a group it has no value, once it is known at all.
abbrev pub column_in : Place → List ℕ → Result TypedExpr Refusal
    → Result TypedExpr Refusal
column_in Group name t = result_and_then (λ x. Err (not_grouped name)) t
column_in place name t = t

-- The place of an expression: what a group's rows are grouped by has a value in the group.
abbrev pub place_at : List Expr → Place → Expr → Place
place_at groups Group expr = if is_key groups expr then Key else Group
place_at groups place expr = place

-- The place of a form's operands: an aggregate takes its own in each row.
abbrev pub place_below : {X A : Type 0} → Place → Form-F X A → Place
place_below place form = if is_aggregate_form form then Row else place
