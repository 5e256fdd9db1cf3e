use Rattle.std.proofs.Common.{subst}
use Rattle.mc_typing.specs.declared.typed.TypedExpr.{TypedExpr}
use Rattle.mc_typing.specs.Exprs.{usual_id}
use Rattle.mc_typing.specs.Operators.{converted_by_name}
use Rattle.mc_typing.specs.Wanted.{IsWanted}
use Rattle.mc_typing.proofs.conversions.convert.Goals as goal

pub returns : goal.returns
returns c = subst (λ (y : TypedExpr). IsWanted c.converted_by_name.result
    (converted_by_name c.args.c.now (usual_id c.args.c.now) c.args.name.now y)) c.in_ok-x.ensures
    c.converted_by_name.ensures
