-- Each member gives what is appended next.
use Rattle.std.specs.List.{list_any}
use Rattle.mc_eval.specs.Fit.{has_like}
use Rattle.mc_exec.specs.Given.{keys_in}
use Rattle.mc_exec.specs.Ready.{IsKeptSubject}
use Rattle.mc_exec.specs.Steps.{appended, with_all}
use Rattle.mc_exec.proofs.Rows.{member}
use Rattle.mc_exec.proofs.Filled.{fails, fill_end, fill_more, fill_none}
use Rattle.mc_exec.proofs.Scans.{goes_on}
use Rattle.mc_exec.proofs.keys.put_all_keys.Goals as goal

pub returns-in-Err-clause-told : goal.returns-in-Err-clause-told
returns-in-Err-clause-told g c =
    let given = keys_in (g.B.Book.meaning c.args.book.now) c.args.orders.now in
    fails (appended c.loop-subject.keys (given c.subject-item.result))
    (with_all given c.args.keys.now c.args.subjects.now) c.in-Err.fault
    (fill_none given c.args.subjects.now c.args.keys.now c.loop-subject.subject-index
    c.subject-item.result c.loop-subject.keys c.loop-subject-test.true c.subject-item.is
    c.loop-subject.invariant.0) c.in-Err.ensures.told

pub loop-subject-preserved : goal.loop-subject-preserved
loop-subject-preserved g c =
    let given = keys_in (g.B.Book.meaning c.args.book.now) c.args.orders.now in (
      fill_more given c.args.subjects.now c.args.keys.now c.loop-subject.subject-index
          c.subject-item.result c.loop-subject.keys c.put_keys.new.keys c.loop-subject-test.true
          c.subject-item.is c.loop-subject.invariant.0 c.in-Ok.ensures.told,
      c.in-Ok.ensures.kept,
      goes_on (list_any (λ key. has_like key.expr) c.args.orders.now) _ _ _
          c.loop-subject.invariant.2 c.in-Ok.ensures.work,
    )

pub returns-clause-told : goal.returns-clause-told
returns-clause-told g c =
    fill_end (keys_in (g.B.Book.meaning c.args.book.now) c.args.orders.now) c.args.subjects.now
    c.args.keys.now c.loop-subject.subject-index c.loop-subject.keys c.loop-subject-test.false
    c.loop-subject.invariant.0

pub put_keys-requires-clause-subject : goal.put_keys-requires-clause-subject
put_keys-requires-clause-subject g c =
    member IsKeptSubject c.args.subjects.now c.requires.subjects c.loop-subject.subject-index
    c.subject-item.result c.loop-subject-test.true c.subject-item.is
