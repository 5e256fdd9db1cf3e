-- The steps of the two halves, laid over one another.
use Rattle.std.proofs.Common.{◌/◌, length, subst}
use Rattle.std.proofs.lemmas.List.{take_rest}
use Rattle.mc_allkeys.specs.Steps.{AreStepsOf}
use Rattle.mc_allkeys.proofs.StepLemmas.{steps-joined}
use Rattle.mc_allkeys.proofs.steps.+steps_of.Goals as goal

pub returns : goal.returns
returns t c =
    let ranges = c.args.ranges.now in
    let behind = c.in_ok-behind.behind.items in
    steps-joined ranges (length ranges / 2) c.in_ok-front.front.items behind
    c.in_ok-steps.steps.items c.in_ok-front.ensures
    (subst (λ rs. AreStepsOf rs behind) (take_rest ranges (length ranges / 2))
    c.in_ok-behind.ensures)
    (rw (c.as_slice.ensures.value, c.as_slice-2.ensures.value) at c.in_ok-steps.ensures)
