-- Each subject gives what is appended next.
use Rattle.std.proofs.Common.{◌||◌}
use Rattle.std.specs.List.{list_any}
use Rattle.std.specs.Prelude.{option_map}
use Rattle.mc_eval.specs.Fit.{has_like}
use Rattle.mc_exec.specs.Given.{Subject}
use Rattle.mc_exec.specs.Ready.{IsShowable}
use Rattle.mc_exec.specs.Shown.{Line, line_in}
use Rattle.mc_exec.specs.Steps.{appended, with_all}
use Rattle.mc_exec.proofs.Filled.{fails, fill_end, fill_more, fill_none}
use Rattle.mc_exec.proofs.Rows.{member}
use Rattle.mc_exec.proofs.Scans.{goes_on}
use Rattle.mc_exec.proofs.distinct.put_all_items.Goals as goal

pub put_items-requires-clause-subject : goal.put_items-requires-clause-subject
put_items-requires-clause-subject g c =
    (member (IsShowable (g.B.Book.meaning c.args.book.now) c.args.q.now) c.args.subjects.now
    c.requires.subjects c.loop-subject.subject-index c.subject-item.result c.loop-subject-test.true
    c.subject-item.is).kept

pub returns-in-Err-clause-told : goal.returns-in-Err-clause-told
returns-in-Err-clause-told g c =
    let m = g.B.Book.meaning c.args.book.now in
    let given = λ (s : Subject). option_map (λ (l : Line). l.items) (line_in m c.args.q.now s) in
    fails (appended c.loop-subject.rows (given c.subject-item.result))
    (with_all given c.args.rows.now c.args.subjects.now) c.in-Err.fault
    (fill_none given c.args.subjects.now c.args.rows.now c.loop-subject.subject-index
    c.subject-item.result c.loop-subject.rows c.loop-subject-test.true c.subject-item.is
    c.loop-subject.invariant.0) c.in-Err.ensures.told

pub loop-subject-preserved : goal.loop-subject-preserved
loop-subject-preserved g c =
    let m = g.B.Book.meaning c.args.book.now in
    let q = c.args.q.now in
    let given = λ (s : Subject). option_map (λ (l : Line). l.items) (line_in m q s) in (
      fill_more given c.args.subjects.now c.args.rows.now c.loop-subject.subject-index
          c.subject-item.result c.loop-subject.rows c.put_items.new.rows c.loop-subject-test.true
          c.subject-item.is c.loop-subject.invariant.0 c.in-Ok.ensures.told,
      c.in-Ok.ensures.kept,
      goes_on (list_any has_like q.items || list_any (λ key. has_like key.expr) q.orders) _ _ _
          c.loop-subject.invariant.2 c.in-Ok.ensures.work,
    )

pub returns-clause-told : goal.returns-clause-told
returns-clause-told g c =
    let m = g.B.Book.meaning c.args.book.now in
    let given = λ (s : Subject). option_map (λ (l : Line). l.items) (line_in m c.args.q.now s) in
    fill_end given c.args.subjects.now c.args.rows.now c.loop-subject.subject-index
    c.loop-subject.rows c.loop-subject-test.false c.loop-subject.invariant.0
