-- The values of the keys are a row behind the others.
use Rattle.mc_exec.specs.Given.{keys_in, value_in}
use Rattle.mc_exec.specs.Steps.{appended, with_all}
use Rattle.mc_typing.specs.declared.typed.TypedOrder.{TypedOrder}
use Rattle.mc_exec.proofs.Filled.{fails, none_filled, put_filled}
use Rattle.mc_exec.proofs.keys.put_keys.Goals as goal

pub returns-in_ok-push-in-Ok-clause-told : goal.returns-in_ok-push-in-Ok-clause-told
returns-in_ok-push-in-Ok-clause-told g c =
    let m = g.B.Book.meaning c.args.book.now in
    let given = λ (key : TypedOrder).
    value_in m c.args.subject.now key.expr in
    put_filled given c.args.keys.now c.args.orders.now c.new-values.result
    c.put_key_values.new.values _ c.new-values.ensures c.in-Ok.ensures.told
    c.in_ok-push-in-Ok.ensures.ok

pub returns-in-Err-clause-told : goal.returns-in-Err-clause-told
returns-in-Err-clause-told g c =
    let m = g.B.Book.meaning c.args.book.now in
    let given = λ (key : TypedOrder).
    value_in m c.args.subject.now key.expr in
    fails (with_all given c.new-values.result c.args.orders.now)
    (appended c.args.keys.now (keys_in m c.args.orders.now c.args.subject.now))
    c.in-Err.fault (none_filled given _ c.args.orders.now c.new-values.result c.new-values.ensures)
    c.in-Err.ensures.told
