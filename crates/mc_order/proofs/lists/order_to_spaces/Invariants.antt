use Rattle.std.proofs.Common.{◌≡◌, drop}
use Rattle.mc_order.specs.declared.pad.Pad.TheVariants.{PadSpace}
use Rattle.mc_order.specs.Order.{order_to_end}
use Rattle.mc_order.proofs.lists.order_to_spaces.Given as goal

abbrev pub invariant-loop-weight : goal.invariant-loop-weight
invariant-loop-weight l =
    order_to_end PadSpace l.space
    (drop l.weight-index l.list) ≡ order_to_end PadSpace l.space l.list
