use Rattle.std.proofs.Common.{sym, ap, ◌∙◌, subst}
use Rattle.mc_values.specs.declared.value.Value.{Value}
use Rattle.mc_eval.specs.Comparisons.{compared}
use Rattle.mc_eval.specs.Held.{TellsHeld}
use Rattle.mc_eval.specs.Outcomes.{Outcome, of_two}
use Rattle.mc_eval.specs.Truths.{told}
use Rattle.mc_eval.proofs.Pairs.{pair_told}
use Rattle.mc_eval.proofs.comparisons.comparison.Goals as goal

pub returns-in-Ok-other-clause-told : goal.returns-in-Ok-other-clause-told
returns-in-Ok-other-clause-told g c = λ x y h k.
    let f : Value → Value → Outcome = λ a b. told (compared (g.B.Book.meaning c.args.book.now) c.args.coll c.args.op a b) in
    c.told.ensures.told (of_two f x y) (pair_told f x y _ _ _ _
    (subst (λ r. TellsHeld x r) c.in-Ok.is h) (subst (λ r. TellsHeld y r) c.in-Ok-other.is k)
    c.get.ensures c.get-in-Ok-other.ensures ∙ ap told (sym c.in_ok-compared-in-Ok-other.ensures))
