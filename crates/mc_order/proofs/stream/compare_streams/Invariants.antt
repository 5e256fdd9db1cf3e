use Rattle.std.proofs.Common.{◌≡◌, length}
use Rattle.mc_order.specs.Order.{list_order}
use Rattle.mc_order.proofs.stream.compare_streams.Given as goal

abbrev pub invariant-loop-weight : goal.invariant-loop-weight
invariant-loop-weight g l =
    list_order l.pad l.space (g.S.WeightStream.left l.a) (g.S.WeightStream.left l.b)
    ≡ list_order l.pad l.space (g.S.WeightStream.left l.fn.a) (g.S.WeightStream.left l.fn.b)

abbrev pub decreases-loop-weight : goal.decreases-loop-weight
decreases-loop-weight g l = length (g.S.WeightStream.left l.a)
