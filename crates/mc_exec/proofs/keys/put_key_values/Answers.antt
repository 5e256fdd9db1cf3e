-- Each member gives what is appended next.
use Rattle.mc_eval.specs.Fit.{has_like}
use Rattle.mc_exec.specs.Given.{value_in}
use Rattle.mc_exec.specs.Steps.{appended, with_all}
use Rattle.mc_typing.specs.declared.typed.TypedOrder.{TypedOrder}
use Rattle.mc_exec.proofs.Filled.{fails, fill_end, fill_more, fill_none, like_step}
use Rattle.mc_exec.proofs.keys.put_key_values.Goals as goal

pub returns-in-Err-clause-told : goal.returns-in-Err-clause-told
returns-in-Err-clause-told g c =
    let m = g.B.Book.meaning c.args.book.now in
    let given = λ (key : TypedOrder). value_in m c.args.subject.now key.expr in
    fails (appended c.loop-key.values (given c.key-item.result))
    (with_all given c.args.values.now c.args.orders.now) c.in-Err.fault
    (fill_none given c.args.orders.now c.args.values.now c.loop-key.key-index c.key-item.result
    c.loop-key.values c.loop-key-test.true c.key-item.is c.loop-key.invariant.0)
    c.in-Err.ensures.told

pub loop-key-preserved : goal.loop-key-preserved
loop-key-preserved g c =
    let m = g.B.Book.meaning c.args.book.now in
    let given = λ (key : TypedOrder). value_in m c.args.subject.now key.expr in (
      fill_more given c.args.orders.now c.args.values.now c.loop-key.key-index c.key-item.result
          c.loop-key.values c.put_value.new.values c.loop-key-test.true c.key-item.is
          c.loop-key.invariant.0 c.in-Ok.ensures.told,
      c.in-Ok.ensures.kept,
      like_step (λ key. has_like key.expr) c.args.orders.now c.loop-key.key-index
          c.key-item.result _ _ _
          c.loop-key-test.true c.key-item.is c.loop-key.invariant.2 c.in-Ok.ensures.work,
    )

pub returns-clause-told : goal.returns-clause-told
returns-clause-told g c =
    let m = g.B.Book.meaning c.args.book.now in
    let given = λ (key : TypedOrder). value_in m c.args.subject.now key.expr in
    fill_end given c.args.orders.now c.args.values.now c.loop-key.key-index c.loop-key.values
    c.loop-key-test.false c.loop-key.invariant.0
