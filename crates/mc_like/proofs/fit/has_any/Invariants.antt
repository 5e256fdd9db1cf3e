use Rattle.std.proofs.Common.{◌≡◌, length}
use Rattle.mc_like.specs.Fronts.{has_any}
use Rattle.mc_like.proofs.fit.has_any.Given as goal

abbrev pub invariant-loop-item : goal.invariant-loop-item
invariant-loop-item l = has_any l.left ≡ has_any l.items

abbrev pub decreases-loop-item : goal.decreases-loop-item
decreases-loop-item l = length l.left
