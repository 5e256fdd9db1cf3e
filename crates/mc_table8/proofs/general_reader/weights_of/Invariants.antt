use Rattle.std.proofs.Common.{◌≡◌, length}
use Rattle.mc_table8.specs.Cells.{HasWeights}
use Rattle.mc_table8.proofs.general_reader.weights_of.Given as goal

abbrev pub invariant-loop-code : goal.invariant-loop-code
invariant-loop-code l = record {
  sizes : length l.weights ≡ l.code;
  each_code : HasWeights l.cells.cells.items l.weights;
}
