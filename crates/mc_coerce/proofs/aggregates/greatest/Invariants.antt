use Rattle.std.proofs.Common.{◌≡◌, drop}
use Rattle.mc_coerce.specs.Aggregate.{counted, greatest, later}
use Rattle.mc_coerce.proofs.aggregates.greatest.Given as goal

abbrev pub invariant-loop-operand : goal.invariant-loop-operand
invariant-loop-operand l =
    later l.class (greatest (counted (drop l.operand-index l.list))) ≡ greatest (counted l.list)
