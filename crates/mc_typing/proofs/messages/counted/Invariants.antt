use Rattle.std.proofs.Common.{◌≡◌, ◌++◌, drop}
use Rattle.mc_coerce.specs.Aggregate.{counted}
use Rattle.mc_typing.proofs.messages.counted.Given as goal

abbrev pub invariant-loop-operand : goal.invariant-loop-operand
invariant-loop-operand l =
    l.list ++ counted (drop l.operand-index l.operands) ≡ counted l.operands
