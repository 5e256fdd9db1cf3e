-- So far the constants of the first operands are read.
use Rattle.std.specs.List.{All}
use Rattle.mc_range.specs.Condition.{IsCellOf}
use Rattle.mc_plan.proofs.Cells.{AreRead}
use Rattle.mc_plan.proofs.constants.cells.Given as goal

abbrev pub invariant-loop-x : goal.invariant-loop-x
invariant-loop-x l = AreRead l.set l.xs l.x-index l.cells × All (IsCellOf l.set) l.cells
