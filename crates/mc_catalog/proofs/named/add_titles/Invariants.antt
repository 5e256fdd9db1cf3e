-- The names so far are those of the members so far.
use Rattle.std.proofs.Common.{◌≡◌, map, take}
use Rattle.mc_catalog.proofs.named.add_titles.Given as goal

abbrev pub invariant-loop-member : goal.invariant-loop-member
invariant-loop-member g l = l.names ≡ map g.T.Titled.title (take l.member-index l.members)
