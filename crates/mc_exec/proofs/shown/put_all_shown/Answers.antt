-- The subject at each place gives what is shown next.
use Rattle.std.proofs.Common.{◌≡◌, ℕ, Some, [], get_or, subst, sym}
use Rattle.std.specs.Prelude.{option_map}
use Rattle.std.specs.List.{list_any}
use Rattle.mc_eval.specs.Fit.{has_like}
use Rattle.mc_exec.specs.Given.{Subject, alone, values_in}
use Rattle.mc_exec.specs.Steps.{shown_with}
use Rattle.mc_exec.specs.Told.{Fails}
use Rattle.mc_exec.proofs.Filled.{show_end, show_fails_at, show_more_at}
use Rattle.mc_exec.specs.Ready.{IsKeptSubject}
use Rattle.mc_exec.proofs.Rows.{member, place_subject}
use Rattle.mc_exec.proofs.Scans.{goes_on}
use Rattle.mc_exec.proofs.shown.put_all_shown.Goals as goal

pub returns-in-Err-clause-told : goal.returns-in-Err-clause-told
returns-in-Err-clause-told g c =
    let m = g.B.Book.meaning c.args.book.now in
    let row = values_in m c.args.items.now in
    let given = λ (place : ℕ). row (get_or c.args.subjects.now place (alone [])) in
    let p = get_or c.args.places.now c.loop-n.n 0 in
    let at = place_subject c.args.subjects.now p c.index-subjects-place.result
    (c.requires.places c.loop-n.n 0 c.loop-n-test.true) c.index-subjects-place.is in
    show_fails_at given c.args.limit c.args.places.now c.args.shown.now c.loop-n.n 0 c.loop-n.shown
    c.in-Err.fault c.loop-n-test.true c.loop-n.invariant.0
    (subst (λ (s : Subject). Fails (option_map (shown_with c.args.limit c.loop-n.n c.loop-n.shown)
    (row s)) c.in-Err.fault) (sym at) c.in-Err.ensures.told)

pub loop-n-preserved : goal.loop-n-preserved
loop-n-preserved g c =
    let m = g.B.Book.meaning c.args.book.now in
    let row = values_in m c.args.items.now in
    let given = λ (place : ℕ). row (get_or c.args.subjects.now place (alone [])) in
    let p = get_or c.args.places.now c.loop-n.n 0 in
    let at = place_subject c.args.subjects.now p c.index-subjects-place.result
    (c.requires.places c.loop-n.n 0 c.loop-n-test.true) c.index-subjects-place.is in (
      show_more_at given c.args.limit c.args.places.now c.args.shown.now c.loop-n.n 0 c.loop-n.shown
          c.put_shown.new.shown c.loop-n-test.true c.loop-n.invariant.0
          (subst (λ (s : Subject). option_map (shown_with c.args.limit c.loop-n.n c.loop-n.shown)
          (row s) ≡ Some c.put_shown.new.shown) (sym at) c.in-Ok.ensures.told),
      c.in-Ok.ensures.kept,
      goes_on (list_any has_like c.args.items.now) _ _ _ c.loop-n.invariant.2 c.in-Ok.ensures.work,
    )

pub returns-clause-told : goal.returns-clause-told
returns-clause-told g c =
    let m = g.B.Book.meaning c.args.book.now in
    let row = values_in m c.args.items.now in
    let given = λ (place : ℕ). row (get_or c.args.subjects.now place (alone [])) in
    show_end given c.args.limit c.args.places.now c.args.shown.now c.loop-n.n c.loop-n.shown
    c.loop-n-test.false c.loop-n.invariant.0

pub put_shown-requires-clause-subject : goal.put_shown-requires-clause-subject
put_shown-requires-clause-subject g c =
    let p = get_or c.args.places.now c.loop-n.n 0 in
    member IsKeptSubject c.args.subjects.now c.requires.subjects p c.index-subjects-place.result
    (c.requires.places c.loop-n.n 0 c.loop-n-test.true) c.index-subjects-place.is
