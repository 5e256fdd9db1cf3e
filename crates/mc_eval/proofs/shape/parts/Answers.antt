use Rattle.std.proofs.Common.{subst, sym}
use Rattle.mc_typing.specs.declared.typed.Node.{out-Node}
use Rattle.mc_eval.specs.Walk.{HasValue}
use Rattle.mc_eval.proofs.shape.parts.Goals as goal

pub returns-clause-value : goal.returns-clause-value
returns-clause-value c = λ p. subst (HasValue p c.args.e.now (out-Node c.args.e.now.node))
    (sym c.shape_of.ensures) (c.parts_law.ensures.value p)
