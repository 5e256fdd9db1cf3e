use Rattle.std.proofs.Common.{◌≡◌, drop}
use Rattle.mc_coerce.specs.Demand.{decides}
use Rattle.mc_coerce.specs.Aggregate.{counted}
use Rattle.mc_coerce.proofs.aggregates.decides.Given as goal

abbrev pub invariant-loop-b : goal.invariant-loop-b
invariant-loop-b l =
    decides l.demand (counted (drop l.b-index l.list)) l.a ≡ decides l.demand (counted l.list) l.a
