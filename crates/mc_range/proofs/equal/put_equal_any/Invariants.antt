use Rattle.std.proofs.Common.{◌≡◌, ◌≤◌, ◌++◌, length, drop}
use Rattle.std.specs.List.{flat_map}
use Rattle.mc_range.specs.Intervals.{equal_cell, most_intervals}
use Rattle.mc_range.proofs.equal.put_equal_any.Given as goal

abbrev pub invariant-loop-cell : goal.invariant-loop-cell
invariant-loop-cell g l =
    let intervals = equal_cell (g.C.Collation.meaning l.collation) l.prefix in
    (length l.out ≤ most_intervals)
    × (l.out ++ flat_map intervals (drop l.cell-index l.cells)
    ≡ l.fn.out ++ flat_map intervals l.cells)
