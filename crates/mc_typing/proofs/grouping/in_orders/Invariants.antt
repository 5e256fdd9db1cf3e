-- No aggregate so far: whether one stands in them is told by those that are left.
use Rattle.std.proofs.Common.{◌≡◌, drop}
use Rattle.std.specs.List.{list_any}
use Rattle.mc_typing.specs.Statements.{has_aggregate}
use Rattle.mc_typing.proofs.grouping.in_orders.Given as goal

abbrev pub invariant-loop-order : goal.invariant-loop-order
invariant-loop-order l =
    list_any (λ o. has_aggregate o.expr) (drop l.order-index l.orders) ≡ list_any (λ o. has_aggregate o.expr) l.orders
