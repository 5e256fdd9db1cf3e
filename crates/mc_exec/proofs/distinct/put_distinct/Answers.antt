-- What is shown of the subjects that are picked.
use Rattle.std.proofs.Common.{List, true, ap, subst, sym, ◌∙◌}
use Rattle.std.specs.Prelude.{All, Option, option_map}
use Rattle.mc_values.specs.declared.value.Value.{Value}
use Rattle.mc_exec.specs.FullScan.{arranged, distinct, finish}
use Rattle.mc_exec.specs.Given.{Subject, all_of}
use Rattle.mc_exec.specs.Ready.{IsShowable}
use Rattle.mc_exec.specs.Shown.{line_in}
use Rattle.mc_exec.specs.Told.{TellsOf}
use Rattle.mc_exec.proofs.Filled.{fails}
use Rattle.mc_exec.proofs.LineLists.{mapped_twice}
use Rattle.mc_exec.proofs.distinct.put_distinct.Goals as goal

pub put_arranged-requires-clause-subjects : goal.put_arranged-requires-clause-subjects
put_arranged-requires-clause-subjects g c =
    let m = g.B.Book.meaning c.args.book.now in
    subst (λ (l : List Subject). All (IsShowable m c.args.q.now) l) (sym c.as_slice.ensures)
    c.in-Ok.ensures.subjects

pub returns-in-Ok-clause-told : goal.returns-in-Ok-clause-told
returns-in-Ok-clause-told g c =
    let m = g.B.Book.meaning c.args.book.now in
    let q = c.args.q.now in
    let lines = all_of (line_in m q) c.args.subjects.now in
    subst (λ (o : Option (List (List Value))). TellsOf o c.put_arranged.new.shown
    c.put_arranged.result)
    (ap (option_map (arranged m q)) (ap (all_of (line_in m q)) c.as_slice.ensures
    ∙ c.in-Ok.ensures.lines)
    ∙ (mapped_twice (distinct m q true) (arranged m q) lines
    ∙ ap (λ b. option_map (λ ls. arranged m q (distinct m q b ls)) lines)
    (sym c.requires.distinct)))
    c.put_arranged.ensures.told

pub returns-clause-told : goal.returns-clause-told
returns-clause-told g c =
    let m = g.B.Book.meaning c.args.book.now in
    let q = c.args.q.now in
    fails (all_of (line_in m q) c.args.subjects.now) (finish m q c.args.subjects.now)
    c.in-Err.fault (ap (option_map (λ ls. arranged m q (distinct m q q.distinct ls))))
    c.in-Err.ensures.told
