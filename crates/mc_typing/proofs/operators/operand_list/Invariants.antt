use Rattle.std.proofs.Common.{◌≡◌, ◌++◌, drop}
use Rattle.mc_typing.specs.Operands.{text_operands}
use Rattle.mc_typing.proofs.operators.operand_list.Given as goal

abbrev pub invariant-loop-x : goal.invariant-loop-x
invariant-loop-x l = l.list ++ text_operands (drop l.x-index l.xs) ≡ text_operands l.xs
