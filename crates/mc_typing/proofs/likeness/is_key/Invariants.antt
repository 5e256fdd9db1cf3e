-- None of them so far: whether one is like it is told by those that are left.
use Rattle.std.proofs.Common.{◌≡◌, drop}
use Rattle.mc_typing.specs.Likeness.{is_key}
use Rattle.mc_typing.proofs.likeness.is_key.Given as goal

abbrev pub invariant-loop-group : goal.invariant-loop-group
invariant-loop-group l = is_key (drop l.group-index l.groups) l.e ≡ is_key l.groups l.e
