use Rattle.std.proofs.Common.{◌≡◌, drop}
use Rattle.std.specs.Prelude.{None}
use Rattle.mc_coerce.specs.Aggregate.{counted}
use Rattle.mc_coerce.proofs.Election.{elect_from}
use Rattle.mc_coerce.proofs.aggregates.result_by.Given as goal

abbrev pub invariant-loop-operand : goal.invariant-loop-operand
invariant-loop-operand l =
    elect_from l.demand l.candidate (counted (drop l.operand-index l.list))
    ≡ elect_from l.demand None (counted l.list)
