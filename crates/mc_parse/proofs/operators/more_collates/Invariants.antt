use Rattle.std.proofs.Common.{ℕ, length}
use Rattle.mc_parse.specs.Read.{as_operand}
use Rattle.mc_parse.proofs.OperatorWays.{IsCollating}
use Rattle.mc_parse.proofs.operators.more_collates.Given as goal

abbrev pub invariant-loop-behind : goal.invariant-loop-behind
invariant-loop-behind l = (below : ℕ) → IsCollating below l.fn.place.tokens.now l.place.tokens.now
    (as_operand l.fn.first) (as_operand l.operand)

abbrev pub decreases-loop-behind : goal.decreases-loop-behind
decreases-loop-behind l = length l.place.tokens.now
