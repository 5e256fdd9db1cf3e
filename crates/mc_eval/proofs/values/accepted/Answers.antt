use Rattle.std.proofs.Common.{sym, ap, ◌∙◌, subst}
use Rattle.mc_eval.specs.Acceptance.{TellsAcceptance, acceptance, firm}
use Rattle.mc_eval.specs.Node.{Place, place}
use Rattle.mc_eval.specs.Truths.{truth}
use Rattle.mc_eval.specs.Value.{value}
use Rattle.mc_eval.specs.declared.truth.Truth.{Truth}
use Rattle.mc_eval.proofs.Loops.{firm_joined, join_end}
use Rattle.mc_eval.proofs.values.accepted.Goals as goal

pub returns-clause-told : goal.returns-clause-told
returns-clause-told g c =
    let p : Place = place c.args.row.now c.args.aggregates.now (g.B.Book.meaning c.args.book.now) in
    let es = c.args.conjuncts.now in
    let whole = join_end (λ e. firm (truth (value p e))) es c.loop-e.e-index c.loop-e.so_far
    (acceptance p es) c.loop-e-test.false c.loop-e.invariant.told in
    subst (λ (t : Truth). TellsAcceptance t c.accepts.result)
    (ap firm (sym whole) ∙ firm_joined (λ e. truth (value p e)) es) c.accepts.ensures
