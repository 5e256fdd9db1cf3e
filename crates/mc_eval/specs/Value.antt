-- The value of a typed expression in a row.
use Rattle.mc_typing.specs.declared.typed.Ty.{Ty}
use Rattle.mc_typing.specs.declared.typed.TypedExpr.{TypedExpr, fold-TypedExpr}
use Rattle.mc_eval.specs.Node.{Place, Valued, node_value}
use Rattle.mc_eval.specs.Outcomes.{Outcome}

-- Its type, and what comes of it: of its node over what comes of its operands.
unfoldable pub valued : Place → TypedExpr → Valued
valued p e = fold-TypedExpr (Ty → Outcome) Valued (node_value p)
    (λ x. record { ty = x.ty; outcome = x.node x.ty }) e

abbrev pub value : Place → TypedExpr → Outcome
value p e = (valued p e).outcome
