use Rattle.std.proofs.Common.{◌≡◌, drop}
use Rattle.mc_typing.specs.Whole.{with_keys}
use Rattle.mc_typing.proofs.orders.put_keys.Given as goal

abbrev pub invariant-loop-o : goal.invariant-loop-o
invariant-loop-o l =
    with_keys l.c l.s l.groups l.place l.items l.keys l.next (drop l.o-index l.orders)
    ≡ with_keys l.c l.s l.groups l.place l.items l.initial.keys l.initial.next l.orders
