-- The lines of the rows so far are appended.
use Rattle.std.proofs.Common.{◌≡◌, ◌++◌, take}
use Rattle.std.specs.List.{flat_map}
use Rattle.mc_print.specs.Lines.{row_line}
use Rattle.mc_print.proofs.table.push_rows.Given as goal

abbrev pub invariant-loop-row : goal.invariant-loop-row
invariant-loop-row l =
    l.out ≡ l.fn.out ++ flat_map row_line (take l.row-index l.rows)
