-- No aggregate so far: whether one stands in them is told by those that are left.
use Rattle.std.proofs.Common.{◌≡◌, drop}
use Rattle.std.specs.List.{list_any}
use Rattle.mc_typing.specs.Statements.{has_aggregate}
use Rattle.mc_typing.proofs.grouping.+grouping.Given as goal

abbrev pub invariant-in_some-loop-e : goal.invariant-in_some-loop-e
invariant-in_some-loop-e l = list_any has_aggregate (drop l.e-index l.es) ≡ list_any has_aggregate l.es
