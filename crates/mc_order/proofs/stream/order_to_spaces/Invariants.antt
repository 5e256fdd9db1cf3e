use Rattle.std.proofs.Common.{◌≡◌, length}
use Rattle.mc_order.specs.declared.pad.Pad.TheVariants.{PadSpace}
use Rattle.mc_order.specs.Order.{order_to_end}
use Rattle.mc_order.proofs.stream.order_to_spaces.Given as goal

abbrev pub invariant-loop-weight : goal.invariant-loop-weight
invariant-loop-weight g l =
    order_to_end PadSpace l.space (g.S.WeightStream.left l.stream)
    ≡ order_to_end PadSpace l.space (g.S.WeightStream.left l.fn.stream)

abbrev pub decreases-loop-weight : goal.decreases-loop-weight
decreases-loop-weight g l = length (g.S.WeightStream.left l.stream)
