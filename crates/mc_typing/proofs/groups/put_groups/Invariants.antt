use Rattle.std.proofs.Common.{◌≡◌, drop, map}
use Rattle.mc_typing.specs.Statements.{group_typing}
use Rattle.mc_typing.specs.Whole.{with_typings}
use Rattle.mc_typing.proofs.groups.put_groups.Given as goal

abbrev pub invariant-loop-group : goal.invariant-loop-group
invariant-loop-group l =
    with_typings l.xs (map (group_typing l.c l.s) (drop l.group-index l.groups))
    ≡ with_typings l.initial.xs (map (group_typing l.c l.s) l.groups)
