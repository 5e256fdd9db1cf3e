use Rattle.std.proofs.Common.{arith}
use Rattle.mc_range.specs.Intervals.{equal_cell, most_intervals}
use Rattle.mc_range.proofs.Counts.{appended, not_appended}
use Rattle.mc_range.proofs.Loops.{cell_put, cells_put, cell_over, cells_within}
use Rattle.mc_range.proofs.equal.put_equal_any.Goals as goal

pub loop-cell-preserved : goal.loop-cell-preserved
loop-cell-preserved g c =
    let f = equal_cell (g.C.Collation.meaning c.args.collation.now) c.args.prefix in
    let done = appended c.in_ok-put_equal.field-0 c.loop-cell.out c.put_equal.new.out
    (f c.cell-item.result) c.in-All.is c.in_ok-put_equal.ensures in (
      done.1,
      cell_put f c.args.cells.now c.loop-cell.cell-index c.cell-item.result c.loop-cell.out
          c.put_equal.new.out _ (omega arith) c.cell-item.is done.0 c.loop-cell.invariant.1,
    )

pub returns-in-TooMany : goal.returns-in-TooMany
returns-in-TooMany g c =
    let f = equal_cell (g.C.Collation.meaning c.args.collation.now) c.args.prefix in
    cell_over f c.args.cells.now c.loop-cell.cell-index c.cell-item.result c.loop-cell.out
    c.args.out.now _ most_intervals (omega arith) c.cell-item.is
    (not_appended c.in_ok-put_equal.field-0 c.loop-cell.out c.put_equal.new.out
    (f c.cell-item.result) c.in-TooMany.is c.in_ok-put_equal.ensures)
    c.loop-cell.invariant.1

pub returns : goal.returns
returns g c =
    let f = equal_cell (g.C.Collation.meaning c.args.collation.now) c.args.prefix in
    let all = cells_put f c.args.cells.now c.loop-cell.cell-index c.loop-cell.out _ (omega arith)
    c.loop-cell.invariant.1 in
    (all, cells_within c.loop-cell.out c.args.out.now _ most_intervals c.loop-cell.invariant.0 all)
