-- The items of all subjects, of which those that no earlier one has are picked.
use Rattle.std.proofs.Common.{Some, None, refl, subst, sym}
use Rattle.std.specs.Prelude.{IsTrue, Option, option_map, List}
use Rattle.std.specs.Option.{is_some}
use Rattle.mc_exec.specs.Given.{Subject, all_of}
use Rattle.mc_exec.specs.Shown.{Line, line_in}
use Rattle.mc_exec.specs.Steps.{with_all}
use Rattle.mc_exec.proofs.Filled.{fails, keys_filled}
use Rattle.mc_exec.proofs.LineLists.{lines_of_items, no_items}
use Rattle.mc_exec.proofs.distinct.put_unlike.Goals as goal

pub put_firsts-requires-clause-rows : goal.put_firsts-requires-clause-rows
put_firsts-requires-clause-rows g c =
    let m = g.B.Book.meaning c.args.book.now in
    let given = λ (s : Subject). option_map (λ (l : Line). l.items) (line_in m c.args.q.now s) in
    keys_filled given c.args.subjects.now c.new-rows.result c.new-rows.ensures
    (Some c.put_all_items.new.rows) c.in-Ok.ensures.told

pub returns-in-Ok-put_firsts-clause-told : goal.returns-in-Ok-put_firsts-clause-told
returns-in-Ok-put_firsts-clause-told g c =
    let m = g.B.Book.meaning c.args.book.now in
    let q = c.args.q.now in
    let given = λ (s : Subject). option_map (λ (l : Line). l.items) (line_in m q s) in
    let ls = lines_of_items (line_in m q) c.args.subjects.now c.put_all_items.new.rows
    (keys_filled given c.args.subjects.now c.new-rows.result c.new-rows.ensures
    (Some c.put_all_items.new.rows) c.in-Ok.ensures.told) in
    subst (λ (o : Option (List Line)). IsTrue (is_some o)) (sym ls.1) refl

pub returns-clause-told : goal.returns-clause-told
returns-clause-told g c =
    let m = g.B.Book.meaning c.args.book.now in
    let q = c.args.q.now in
    let given = λ (s : Subject). option_map (λ (l : Line). l.items) (line_in m q s) in
    fails (with_all given c.new-rows.result c.args.subjects.now)
    (all_of (line_in m q) c.args.subjects.now) c.in-Err.fault
    (λ e. no_items (line_in m q) c.args.subjects.now
    (keys_filled given c.args.subjects.now c.new-rows.result c.new-rows.ensures None e))
    c.in-Err.ensures.told
