use Rattle.std.proofs.Common.{◌≡◌, ℕ, List, IfOk, sym, ap, ◌∙◌, subst}
use Rattle.mc_order.specs.Meaning.{Meaning}
use Rattle.mc_values.specs.declared.value.Value.{Value}
use Rattle.mc_eval.specs.Comparisons.{is_among}
use Rattle.mc_eval.specs.Held.{held_values}
use Rattle.mc_eval.specs.Node.{among}
use Rattle.mc_eval.specs.declared.held.Held.{Held}
use Rattle.mc_eval.specs.declared.truth.Truth.{Truth}
use Rattle.mc_eval.proofs.lists.among.Goals as goal

pub returns-in-Some : goal.returns-in-Some
returns-in-Some g c =
    let m : ℕ → Meaning = g.B.Book.meaning c.args.book.now in
    let coll = c.args.coll in
    let members : List Held = c.in-Some.members.now in
    let same = ap (λ (l : List Held). among m coll (held_values l)) c.in-Some.ensures.cases.0
    ∙ ap (λ (v : Value). is_among m coll v (held_values members)) (sym c.get.ensures) in
    subst (λ (t : Truth). IfOk c.is_among.result (λ is. is ≡ t)) (sym same) c.is_among.ensures
