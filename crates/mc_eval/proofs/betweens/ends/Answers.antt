use Rattle.std.proofs.Common.{◌≡◌, ℕ, IfOk, sym, ap, ◌∙◌, subst}
use Rattle.mc_ast.specs.declared.operators.CmpOp.TheVariants.{Ge, Le}
use Rattle.mc_order.specs.Meaning.{Meaning}
use Rattle.mc_values.specs.declared.value.Value.{Value}
use Rattle.mc_eval.specs.Comparisons.{compared}
use Rattle.mc_eval.specs.Held.{TellsHeld, held_value}
use Rattle.mc_eval.specs.Outcomes.{Outcome, of_two}
use Rattle.mc_eval.specs.Outcomes.Outcome.{gives}
use Rattle.mc_eval.specs.Truths.{told, truth}
use Rattle.mc_eval.proofs.betweens.ends.Goals as goal

pub returns-in-Ok : goal.returns-in-Ok
returns-in-Ok g c = λ x l h hx hl hh.
    let m : ℕ → Meaning = g.B.Book.meaning c.args.book.now in
    let above : Value → Value → Outcome = λ a b. told (compared m c.args.coll Ge a b) in
    let below : Value → Value → Outcome = λ a b. told (compared m c.args.coll Le a b) in
    let v : x ≡ gives (held_value c.in-Ok.it) = subst (λ r. TellsHeld x r) c.in-Ok.is hx in
    c.both.ensures (truth (of_two above x l)) (truth (of_two below x h))
    (subst (λ o. IfOk c.end.result (λ is. is ≡ truth (of_two above o l)))
    (sym (v ∙ ap (λ w. gives w) (sym c.get.ensures))) (c.end.ensures l hl))
    (subst (λ o. IfOk c.end-in-Ok.result (λ is. is ≡ truth (of_two below o h)))
    (sym (v ∙ ap (λ w. gives w) (sym c.get-in-Ok.ensures))) (c.end-in-Ok.ensures h hh))
