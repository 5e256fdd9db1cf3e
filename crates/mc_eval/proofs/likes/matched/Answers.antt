use Rattle.std.proofs.Common.{ℕ, sym, subst}
use Rattle.mc_order.specs.Meaning.{Meaning}
use Rattle.mc_values.specs.declared.value.Value.{Value}
use Rattle.mc_eval.specs.Outcomes.{Outcome}
use Rattle.mc_eval.specs.Held.{TellsHeld}
use Rattle.mc_eval.specs.Matches.{liked}
use Rattle.mc_eval.specs.Truths.{told, turned}
use Rattle.mc_eval.proofs.Pairs.{pair_told}
use Rattle.mc_eval.proofs.likes.matched.Goals as goal

pub returns-in-Ok-other-clause-told : goal.returns-in-Ok-other-clause-told
returns-in-Ok-other-clause-told g c = λ x y h k.
    let m : ℕ → Meaning = g.B.Book.meaning c.args.book.now in
    let f : Value → Value → Outcome = λ a b. told (turned c.args.negated (liked m c.args.coll c.args.escape a b)) in
    subst (λ o. TellsHeld o c.made_truth.result)
    (sym (pair_told f x y _ _ _ _ (subst (λ r. TellsHeld x r) c.in-Ok.is h)
    (subst (λ r. TellsHeld y r) c.in-Ok-other.is k) c.get.ensures c.get-in-Ok-other.ensures))
    (c.made_truth.ensures.told (liked m c.args.coll c.args.escape c.get.result.now c.get-in-Ok-other.result.now)
    c.liked.ensures.told)
