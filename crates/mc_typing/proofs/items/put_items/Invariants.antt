use Rattle.std.proofs.Common.{◌≡◌, drop, map}
use Rattle.mc_typing.specs.Exprs.{plain}
use Rattle.mc_typing.specs.Walk.{with_operands}
use Rattle.mc_typing.proofs.items.put_items.Given as goal

abbrev pub invariant-loop-item : goal.invariant-loop-item
invariant-loop-item l =
    with_operands l.c l.s l.groups l.place plain l.xs l.next
    (map (λ item. item.expr) (drop l.item-index l.items))
    ≡ with_operands l.c l.s l.groups l.place plain l.initial.xs l.initial.next
    (map (λ item. item.expr) l.items)
