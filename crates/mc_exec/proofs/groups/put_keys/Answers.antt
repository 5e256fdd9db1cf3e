-- Each row gives what is appended next.
use Rattle.std.proofs.Common.{Bor, List}
use Rattle.std.specs.List.{list_any}
use Rattle.mc_eval.specs.Fit.{has_like}
use Rattle.mc_values.specs.declared.value.Value.{Value}
use Rattle.mc_exec.specs.Given.{alone, values_in}
use Rattle.mc_exec.specs.Steps.{appended, with_all}
use Rattle.mc_exec.proofs.Filled.{fails, fill_end, fill_more, fill_none}
use Rattle.mc_exec.proofs.Scans.{goes_on}
use Rattle.mc_exec.proofs.groups.put_keys.Goals as goal

pub returns-in-Err-clause-told : goal.returns-in-Err-clause-told
returns-in-Err-clause-told g c =
    let m = g.B.Book.meaning c.args.book.now in
    let given = λ (row : Bor (List Value)). values_in m c.args.exprs.now (alone row.now) in
    fails (appended c.loop-row.keys (given c.row-item.result))
    (with_all given c.args.keys.now c.args.rows.now) c.in-Err.fault
    (fill_none given c.args.rows.now c.args.keys.now c.loop-row.row-index c.row-item.result
    c.loop-row.keys c.loop-row-test.true c.row-item.is c.loop-row.invariant.0)
    c.in-Err.ensures.told

pub loop-row-preserved : goal.loop-row-preserved
loop-row-preserved g c =
    let m = g.B.Book.meaning c.args.book.now in
    let given = λ (row : Bor (List Value)). values_in m c.args.exprs.now (alone row.now) in (
      fill_more given c.args.rows.now c.args.keys.now c.loop-row.row-index c.row-item.result
          c.loop-row.keys c.put_key.new.keys c.loop-row-test.true c.row-item.is
          c.loop-row.invariant.0 c.in-Ok.ensures.told,
      c.in-Ok.ensures.kept,
      goes_on (list_any has_like c.args.exprs.now) _ _ _ c.loop-row.invariant.2
          c.in-Ok.ensures.work,
    )

pub returns-clause-told : goal.returns-clause-told
returns-clause-told g c =
    let m = g.B.Book.meaning c.args.book.now in
    let given = λ (row : Bor (List Value)). values_in m c.args.exprs.now (alone row.now) in
    fill_end given c.args.rows.now c.args.keys.now c.loop-row.row-index c.loop-row.keys
    c.loop-row-test.false c.loop-row.invariant.0
