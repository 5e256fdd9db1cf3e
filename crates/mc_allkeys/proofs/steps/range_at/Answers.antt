use Rattle.std.proofs.Common.{arith}
use Rattle.mc_allkeys.proofs.StepLemmas.{at_none, at_some}
use Rattle.mc_allkeys.proofs.steps.range_at.Goals as goal

pub returns : goal.returns
returns c =
    at_some c.args.steps.now c.args.code c.steps_up_to-count.result _ (omega arith)
    c.steps_up_to-count.ensures.within c.steps_up_to-count.ensures.up_to
    c.steps_up_to-count.ensures.above

pub returns-then-count-eq0 : goal.returns-then-count-eq0
returns-then-count-eq0 c =
    at_none c.args.steps.now c.args.code c.steps_up_to-count.result (omega arith)
    c.steps_up_to-count.ensures.above
