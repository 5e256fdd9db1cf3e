-- No aggregate so far: whether one stands in them is told by those that are left.
use Rattle.std.proofs.Common.{◌≡◌, drop}
use Rattle.std.specs.List.{list_any}
use Rattle.mc_typing.specs.Statements.{has_aggregate}
use Rattle.mc_typing.proofs.grouping.in_items.Given as goal

abbrev pub invariant-loop-item : goal.invariant-loop-item
invariant-loop-item l =
    list_any (λ item. has_aggregate item.expr) (drop l.item-index l.items) ≡ list_any (λ item. has_aggregate item.expr) l.items
