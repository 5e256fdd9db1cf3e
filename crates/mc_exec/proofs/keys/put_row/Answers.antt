-- The values are a row behind the others.
use Rattle.mc_exec.specs.Given.{values_in, value_in}
use Rattle.mc_exec.specs.Steps.{appended, with_all}
use Rattle.mc_exec.proofs.Filled.{fails, none_filled, put_filled}
use Rattle.mc_exec.proofs.keys.put_row.Goals as goal

pub returns-in_ok-push-in-Ok-clause-told : goal.returns-in_ok-push-in-Ok-clause-told
returns-in_ok-push-in-Ok-clause-told g c =
    let m = g.B.Book.meaning c.args.book.now in
    let given =
    value_in m c.args.subject.now in
    put_filled given c.args.rows.now c.args.exprs.now c.new-values.result
    c.put_values.new.values _ c.new-values.ensures c.in-Ok.ensures.told
    c.in_ok-push-in-Ok.ensures.ok

pub returns-in-Err-clause-told : goal.returns-in-Err-clause-told
returns-in-Err-clause-told g c =
    let m = g.B.Book.meaning c.args.book.now in
    let given =
    value_in m c.args.subject.now in
    fails (with_all given c.new-values.result c.args.exprs.now)
    (appended c.args.rows.now (values_in m c.args.exprs.now c.args.subject.now))
    c.in-Err.fault (none_filled given _ c.args.exprs.now c.new-values.result c.new-values.ensures)
    c.in-Err.ensures.told
