use Rattle.mc_eval.specs.Truths.{truth}
use Rattle.mc_eval.proofs.operands.not.Goals as goal

pub returns-clause-told : goal.returns-clause-told
returns-clause-told c = λ o h. c.made_truth.ensures.told (truth o) (c.of_operand.ensures o h)
