use Rattle.std.proofs.Common.{◌≡◌, ◌++◌, length, take}
use Rattle.mc_order.proofs.stream.put_weights.Given as goal

abbrev pub invariant-loop-weight : goal.invariant-loop-weight
invariant-loop-weight g l =
    (l.out ++ g.S.WeightStream.left l.stream ≡ l.fn.out ++ g.S.WeightStream.left l.fn.stream)
    × (take l.before l.out ≡ l.fn.out)

abbrev pub decreases-loop-weight : goal.decreases-loop-weight
decreases-loop-weight g l = length (g.S.WeightStream.left l.stream)
