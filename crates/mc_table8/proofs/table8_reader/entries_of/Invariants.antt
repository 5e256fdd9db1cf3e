use Rattle.std.proofs.Common.{◌≡◌, length}
use Rattle.mc_table8.specs.Cells.{HasEntries}
use Rattle.mc_table8.proofs.table8_reader.entries_of.Given as goal

abbrev pub invariant-loop-byte : goal.invariant-loop-byte
invariant-loop-byte l = record {
  sizes : length l.entries ≡ l.byte;
  each_byte : HasEntries l.cells.cells.items l.cells.rest l.entries;
}
