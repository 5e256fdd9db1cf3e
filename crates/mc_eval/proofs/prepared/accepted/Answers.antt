use Rattle.std.proofs.Common.{◌+◌, IsTrue, sym, ap, ◌∙◌, subst}
use Rattle.mc_eval.specs.Acceptance.{TellsAcceptance, acceptance, firm}
use Rattle.mc_eval.specs.Fit.{fits}
use Rattle.mc_eval.specs.Node.{Place, place}
use Rattle.mc_eval.specs.Prepared.{prepared_exprs}
use Rattle.mc_eval.specs.Truths.{least, truth}
use Rattle.mc_eval.specs.Value.{value}
use Rattle.mc_typing.specs.declared.typed.TypedExpr.{TypedExpr}
use Rattle.mc_eval.specs.declared.truth.Truth.{Truth}
use Rattle.mc_eval.proofs.Loops.{firm_joined, join_end, join_no, join_step, joined}
use Rattle.mc_eval.proofs.Loops.{like_step}
use Rattle.mc_eval.proofs.ReadyForms.{end_in, fits_at, index_in, item_in}
use Rattle.std.specs.Prelude.{drop}
use Rattle.mc_eval.proofs.prepared.accepted.Goals as goal

pub truth-requires-clause-fits : goal.truth-requires-clause-fits
truth-requires-clause-fits g c = fits_at (λ e. IsTrue (fits (g.B.Book.count c.args.book.now) e))
    c.args.conjuncts.now c.loop-conjunct.conjunct-index c.conjunct-item.result
    c.loop-conjunct-test.true c.conjunct-item.is c.requires.fits

pub returns-in-Err-clause-work : goal.returns-in-Err-clause-work
returns-in-Err-clause-work g c =
    let cs = c.args.conjuncts.now in
    let i = c.loop-conjunct.conjunct-index in
    let x = c.conjunct-item.result in
    let left = like_step (prepared_exprs cs) i x.expr c.args.work.now c.loop-conjunct.work
    c.truth.new.work (index_in cs i c.loop-conjunct-test.true)
    (item_in cs i x c.loop-conjunct-test.true c.conjunct-item.is) c.loop-conjunct.invariant.work
    c.truth.ensures.work in
    record { still = λ none. (left.still none).0; later = left.later }

pub returns-in-No-clause-told : goal.returns-in-No-clause-told
returns-in-No-clause-told g c =
    let p : Place = place c.args.row.now c.args.aggregates.now (g.B.Book.meaning c.args.book.now) in
    let cs = c.args.conjuncts.now in
    let es = prepared_exprs cs in
    let i = c.loop-conjunct.conjunct-index in
    let x = c.conjunct-item.result in
    let f : TypedExpr → Truth = λ e. firm (truth (value p e)) in
    let step = join_step f es i x.expr c.loop-conjunct.so_far c.firm.result (acceptance p es)
    (index_in cs i c.loop-conjunct-test.true)
    (item_in cs i x c.loop-conjunct-test.true c.conjunct-item.is)
    (c.firm.ensures ∙ ap firm c.in-Ok.ensures.told) c.loop-conjunct.invariant.told in
    join_no (least c.loop-conjunct.so_far c.firm.result) (joined f (drop (i + 1) es))
    (acceptance p es) step (sym c.least-so_far.ensures ∙ c.in-No.is)

pub returns-in-No-clause-work : goal.returns-in-No-clause-work
returns-in-No-clause-work g c =
    let cs = c.args.conjuncts.now in
    let i = c.loop-conjunct.conjunct-index in
    let x = c.conjunct-item.result in
    let left = like_step (prepared_exprs cs) i x.expr c.args.work.now c.loop-conjunct.work
    c.truth.new.work (index_in cs i c.loop-conjunct-test.true)
    (item_in cs i x c.loop-conjunct-test.true c.conjunct-item.is) c.loop-conjunct.invariant.work
    c.truth.ensures.work in
    record { still = λ none. (left.still none).0; later = left.later }

pub loop-conjunct-preserved : goal.loop-conjunct-preserved
loop-conjunct-preserved g c =
    let p : Place = place c.args.row.now c.args.aggregates.now (g.B.Book.meaning c.args.book.now) in
    let cs = c.args.conjuncts.now in
    let es = prepared_exprs cs in
    let i = c.loop-conjunct.conjunct-index in
    let x = c.conjunct-item.result in
    let f : TypedExpr → Truth = λ e. firm (truth (value p e)) in
    let index = index_in cs i c.loop-conjunct-test.true in
    let item = item_in cs i x c.loop-conjunct-test.true c.conjunct-item.is in
    let step = join_step f es i x.expr c.loop-conjunct.so_far c.firm.result (acceptance p es)
    index item (c.firm.ensures ∙ ap firm c.in-Ok.ensures.told) c.loop-conjunct.invariant.told in
    record {
      told = ap (λ s. least s (joined f (drop (i + 1) es))) c.least-so_far.ensures ∙ step;
      work = like_step es i x.expr c.args.work.now c.loop-conjunct.work c.truth.new.work
          index item c.loop-conjunct.invariant.work c.truth.ensures.work;
    }

pub returns-clause-told : goal.returns-clause-told
returns-clause-told g c =
    let p : Place = place c.args.row.now c.args.aggregates.now (g.B.Book.meaning c.args.book.now) in
    let cs = c.args.conjuncts.now in
    let es = prepared_exprs cs in
    let whole = join_end (λ e. firm (truth (value p e))) es c.loop-conjunct.conjunct-index
    c.loop-conjunct.so_far (acceptance p es)
    (end_in cs c.loop-conjunct.conjunct-index c.loop-conjunct-test.false)
    c.loop-conjunct.invariant.told in
    subst (λ (t : Truth). TellsAcceptance t c.accepts.result)
    (ap firm (sym whole) ∙ firm_joined (λ e. truth (value p e)) es) c.accepts.ensures
