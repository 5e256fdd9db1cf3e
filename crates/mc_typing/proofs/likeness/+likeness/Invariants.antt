-- Alike so far: what is left of both lists tells.
use Rattle.std.proofs.Common.{◌≡◌, drop}
use Rattle.mc_typing.specs.Likeness.{alike, in_order}
use Rattle.mc_typing.proofs.likeness.+likeness.Given as goal

abbrev pub invariant-all_alike-loop-e : goal.invariant-all_alike-loop-e
invariant-all_alike-loop-e l =
    in_order alike (drop l.e-index l.es) l.rest ≡ in_order alike l.es l.others
