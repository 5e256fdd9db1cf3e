-- What is left of the front is the digits of the weights that are left.
use Rattle.std.proofs.Common.{◌≡◌, ◌≤◌, ◌+◌}
use Rattle.mc_key.specs.Fronts.{first_digits, front_of}
use Rattle.mc_key.proofs.front.front_of.Given as goal

abbrev pub invariant-loop-left : goal.invariant-loop-left
invariant-loop-left l =
    (l.left ≤ 8)
    × (l.front + first_digits l.left l.fn.pad l.space l.rest ≡ front_of l.fn.pad l.space l.list)

abbrev pub decreases-loop-left : goal.decreases-loop-left
decreases-loop-left l = l.left
