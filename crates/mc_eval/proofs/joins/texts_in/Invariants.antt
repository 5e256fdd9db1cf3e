-- The texts so far are those of the operands so far.
use Rattle.mc_eval.proofs.HeldTexts.{AreTexts}
use Rattle.mc_eval.proofs.joins.texts_in.Given as goal

abbrev pub invariant-loop-operand : goal.invariant-loop-operand
invariant-loop-operand l = AreTexts l.set l.operands l.operand-index l.texts
