-- Before the place the rows' cells are equal.
use Rattle.std.proofs.Common.{◌≡◌, drop}
use Rattle.mc_group.specs.Cells.{cells_order}
use Rattle.mc_group.proofs.entry.cells_order.Given as goal

abbrev pub invariant-loop-i : goal.invariant-loop-i
invariant-loop-i l =
    cells_order (drop l.i l.columns) (drop l.i l.one) (drop l.i l.other)
    ≡ cells_order l.columns l.one l.other
