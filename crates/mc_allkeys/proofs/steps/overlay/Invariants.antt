-- What has been put and what is still to come are the overlay.
use Rattle.std.proofs.Common.{List, ◌++◌, None}
use Rattle.mc_allkeys.specs.Steps.{steps_left, IsLeft, IsOverlay}
use Rattle.mc_allkeys.specs.declared.steps.Step.{Step}
use Rattle.mc_allkeys.proofs.steps.overlay.Given as goal

abbrev pub invariant-loop-step : goal.invariant-loop-step
invariant-loop-step l =
    (rest : List Step) → IsLeft l.left rest →
    IsOverlay l.front l.behind None None (l.steps.items ++ rest)

abbrev pub decreases-loop-step : goal.decreases-loop-step
decreases-loop-step l = steps_left l.left
