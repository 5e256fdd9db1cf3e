-- Each member gives what is appended next.
use Rattle.mc_eval.specs.Fit.{has_like}
use Rattle.mc_exec.specs.Given.{value_in}
use Rattle.mc_exec.specs.Steps.{appended, with_all}
use Rattle.mc_exec.proofs.Filled.{fails, fill_end, fill_more, fill_none, like_step}
use Rattle.mc_exec.proofs.keys.put_values.Goals as goal

pub returns-in-Err-clause-told : goal.returns-in-Err-clause-told
returns-in-Err-clause-told g c =
    let m = g.B.Book.meaning c.args.book.now in
    let given = value_in m c.args.subject.now in
    fails (appended c.loop-e.values (given c.e-item.result))
    (with_all given c.args.values.now c.args.exprs.now) c.in-Err.fault
    (fill_none given c.args.exprs.now c.args.values.now c.loop-e.e-index c.e-item.result
    c.loop-e.values c.loop-e-test.true c.e-item.is c.loop-e.invariant.0)
    c.in-Err.ensures.told

pub loop-e-preserved : goal.loop-e-preserved
loop-e-preserved g c =
    let m = g.B.Book.meaning c.args.book.now in
    let given = value_in m c.args.subject.now in (
      fill_more given c.args.exprs.now c.args.values.now c.loop-e.e-index c.e-item.result
          c.loop-e.values c.put_value.new.values c.loop-e-test.true c.e-item.is
          c.loop-e.invariant.0 c.in-Ok.ensures.told,
      c.in-Ok.ensures.kept,
      like_step has_like c.args.exprs.now c.loop-e.e-index c.e-item.result _ _ _
          c.loop-e-test.true c.e-item.is c.loop-e.invariant.2 c.in-Ok.ensures.work,
    )

pub returns-clause-told : goal.returns-clause-told
returns-clause-told g c =
    let m = g.B.Book.meaning c.args.book.now in
    let given = value_in m c.args.subject.now in
    fill_end given c.args.exprs.now c.args.values.now c.loop-e.e-index c.loop-e.values
    c.loop-e-test.false c.loop-e.invariant.0
