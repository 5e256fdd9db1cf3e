-- The rows so far are key rows.
use Rattle.std.specs.List.{All}
use Rattle.mc_group.specs.Kinds.{IsKeyRow}
use Rattle.mc_order.specs.Bin.{bin_meaning}
use Rattle.mc_group_tests.specs.declared.group_tests.TheConstants.{KINDS}
use Rattle.mc_group_tests.proofs.group_tests.key_rows.Given as goal

abbrev pub invariant-loop-key : goal.invariant-loop-key
invariant-loop-key l = All (IsKeyRow (λ id. bin_meaning l.book.collation) KINDS) l.rows
