use Rattle.std.proofs.Common.{◌≡◌, length}
use Rattle.mc_table8.proofs.FillLemmas.{IsFilledTo}
use Rattle.mc_table8.proofs.cells.Cells.fill.Given as goal

abbrev pub invariant-loop-code : goal.invariant-loop-code
invariant-loop-code l = record {
  cells : IsFilledTo l.run l.second l.initial.self.cells.items l.self.cells.items l.code;
  sizes : length l.self.cells.items ≡ length l.initial.self.cells.items;
  default : l.self.rest ≡ l.initial.self.rest;
}
