use Rattle.std.proofs.Common.{length}
use Rattle.mc_convert.proofs.StepLemmas.{ReachedBehind}
use Rattle.mc_convert.proofs.steps.convert_each.Given as goal

abbrev pub invariant-loop-count : goal.invariant-loop-count
invariant-loop-count g l =
    ReachedBehind g.F.Encoding.set g.T.Encoding.set l.text l.rest l.fn.out l.out l.place l.lost

abbrev pub decreases-loop-count : goal.decreases-loop-count
decreases-loop-count g l = length l.rest
