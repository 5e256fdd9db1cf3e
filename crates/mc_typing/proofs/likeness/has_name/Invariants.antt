-- None of them so far: whether one is the name is told by those that are left.
use Rattle.std.proofs.Common.{◌≡◌, drop}
use Rattle.mc_typing.specs.Likeness.{has_name}
use Rattle.mc_typing.proofs.likeness.has_name.Given as goal

abbrev pub invariant-loop-group : goal.invariant-loop-group
invariant-loop-group l = has_name (drop l.group-index l.groups) l.name ≡ has_name l.groups l.name
