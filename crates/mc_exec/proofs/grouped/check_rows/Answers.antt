-- Each row that can be evaluated leaves the others.
use Rattle.std.proofs.Common.{Bor, List, ◌||◌}
use Rattle.std.specs.List.{list_any}
use Rattle.mc_eval.specs.Fit.{has_like}
use Rattle.mc_values.specs.declared.value.Value.{Value}
use Rattle.mc_exec.specs.Given.{all_of}
use Rattle.mc_exec.specs.Shown.{line_in}
use Rattle.mc_exec.proofs.Filled.{fails}
use Rattle.mc_exec.proofs.Scans.{goes_on}
use Rattle.mc_exec.proofs.Standing.{check_end, check_more, check_none, with_these}
use Rattle.mc_exec.proofs.grouped.check_rows.Goals as goal

pub returns-in-Err-clause-told : goal.returns-in-Err-clause-told
returns-in-Err-clause-told g c =
    let m = g.B.Book.meaning c.args.book.now in
    let given = λ (row : Bor (List Value)).
    line_in m c.args.q.now (with_these c.args.aggregates.now row.now) in
    fails (given c.row-item.result) (all_of given c.args.rows.now) c.in-Err.fault
    (check_none given c.args.rows.now c.loop-row.row-index c.row-item.result c.loop-row-test.true
    c.row-item.is c.loop-row.invariant.0) c.in-Err.ensures.told

pub loop-row-preserved : goal.loop-row-preserved
loop-row-preserved g c =
    let m = g.B.Book.meaning c.args.book.now in
    let q = c.args.q.now in
    let given = λ (row : Bor (List Value)). line_in m q (with_these c.args.aggregates.now
    row.now) in (
      check_more given c.args.rows.now c.loop-row.row-index c.row-item.result c.loop-row-test.true
          c.row-item.is c.loop-row.invariant.0 c.in-Ok.ensures.told,
      goes_on (list_any has_like q.items || list_any (λ key. has_like key.expr) q.orders) _ _ _
          c.loop-row.invariant.1 c.in-Ok.ensures.work,
    )

pub returns-clause-told : goal.returns-clause-told
returns-clause-told g c =
    let m = g.B.Book.meaning c.args.book.now in
    let given = λ (row : Bor (List Value)).
    line_in m c.args.q.now (with_these c.args.aggregates.now row.now) in
    check_end given c.args.rows.now c.loop-row.row-index c.loop-row-test.false
    c.loop-row.invariant.0
