-- The values of the items are a row, which is shown or not.
use Rattle.std.specs.Prelude.{option_map}
use Rattle.mc_exec.specs.Given.{value_in, values_in}
use Rattle.mc_exec.specs.Steps.{shown_with, with_all}
use Rattle.mc_exec.proofs.Filled.{fails, none_filled, put_mapped}
use Rattle.mc_exec.proofs.shown.put_shown.Goals as goal

pub returns-in_ok-push_shown-in-Ok-clause-told : goal.returns-in_ok-push_shown-in-Ok-clause-told
returns-in_ok-push_shown-in-Ok-clause-told g c =
    let m = g.B.Book.meaning c.args.book.now in
    let given = value_in m c.args.subject.now in
    put_mapped given (shown_with c.args.limit c.args.place c.args.shown.now) c.args.items.now
    c.new-values.result c.put_values.new.values _ c.new-values.ensures c.in-Ok.ensures.told
    c.in_ok-push_shown-in-Ok.ensures.ok

pub returns-in-Err-clause-told : goal.returns-in-Err-clause-told
returns-in-Err-clause-told g c =
    let m = g.B.Book.meaning c.args.book.now in
    let given = value_in m c.args.subject.now in
    fails (with_all given c.new-values.result c.args.items.now)
    (option_map (shown_with c.args.limit c.args.place c.args.shown.now)
    (values_in m c.args.items.now c.args.subject.now))
    c.in-Err.fault (none_filled given (shown_with c.args.limit c.args.place c.args.shown.now)
    c.args.items.now c.new-values.result c.new-values.ensures) c.in-Err.ensures.told
