use Rattle.std.proofs.Common.{◌≡◌, drop}
use Rattle.mc_typing.specs.Walk.{with_operands}
use Rattle.mc_typing.proofs.walk.+walk.Given as goal

abbrev pub invariant-put_list-loop-e : goal.invariant-put_list-loop-e
invariant-put_list-loop-e l =
    with_operands l.c l.s l.groups l.place l.callee l.xs l.next (drop l.e-index l.es)
    ≡ with_operands l.c l.s l.groups l.place l.callee l.initial.xs l.initial.next l.es
