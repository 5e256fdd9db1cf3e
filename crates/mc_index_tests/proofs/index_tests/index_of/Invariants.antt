-- The builder has the collation's padding and space, and the entries of earlier rows.
use Rattle.std.proofs.Common.{◌≡◌, ◌<◌}
use Rattle.std.specs.List.{All}
use Rattle.mc_index.specs.Entries.{rows_of}
use Rattle.mc_order.specs.Bin.{bin_meaning}
use Rattle.mc_index_tests.proofs.index_tests.index_of.Given as goal

abbrev pub invariant-loop-row : goal.invariant-loop-row
invariant-loop-row l =
    (l.builder.pad ≡ (bin_meaning l.collation).pad)
    × (l.builder.space ≡ (bin_meaning l.collation).space)
    × All (λ other. other < l.row) (rows_of l.builder.entries)
