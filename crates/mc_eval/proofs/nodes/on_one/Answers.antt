use Rattle.std.proofs.Common.{ℕ, sym, ap, ◌∙◌, subst}
use Rattle.mc_order.specs.Meaning.{Meaning}
use Rattle.mc_typing.specs.declared.typed.Node.{Node, Node-F, out-Node}
use Rattle.mc_typing.specs.declared.typed.Node.TheVariants as node
use Rattle.mc_typing.specs.declared.typed.TypedExpr.{TypedExpr}
use Rattle.mc_eval.specs.Held.{TellsHeld}
use Rattle.mc_eval.specs.Outcomes.{of_one}
use Rattle.mc_eval.specs.Outcomes.Outcome.{gives}
use Rattle.mc_eval.specs.Weights.{weighed}
use Rattle.mc_eval.specs.Walk.{value_of_one}
use Rattle.mc_eval.proofs.nodes.on_one.Goals as goal

pub returns-in-IsNull-clause-told : goal.returns-in-IsNull-clause-told
returns-in-IsNull-clause-told g c = λ o h.
    let m : ℕ → Meaning = g.B.Book.meaning c.args.book.now in
    subst (λ (n : Node-F Node TypedExpr). TellsHeld (value_of_one m n o) c.null_test.result)
    (sym (ap out-Node c.in-IsNull.is ∙ node.outs-IsNull c.in-IsNull.expr c.in-IsNull.negated))
    (c.null_test.ensures.told o h)

pub returns-in-Not-clause-told : goal.returns-in-Not-clause-told
returns-in-Not-clause-told g c = λ o h.
    let m : ℕ → Meaning = g.B.Book.meaning c.args.book.now in
    subst (λ (n : Node-F Node TypedExpr). TellsHeld (value_of_one m n o) c.not.result)
    (sym (ap out-Node c.in-Not.is ∙ node.outs-Not c.in-Not.field-0))
    (c.not.ensures.told o h)

pub returns-in-Neg-clause-told : goal.returns-in-Neg-clause-told
returns-in-Neg-clause-told g c = λ o h.
    let m : ℕ → Meaning = g.B.Book.meaning c.args.book.now in
    subst (λ (n : Node-F Node TypedExpr). TellsHeld (value_of_one m n o) c.made.result)
    (sym (ap out-Node c.in-Neg.is ∙ node.outs-Neg c.in-Neg.field-0))
    (c.made.ensures.told _ (c.negated.ensures.told o h))

pub returns-in-NumberText-clause-told : goal.returns-in-NumberText-clause-told
returns-in-NumberText-clause-told g c = λ o h.
    let m : ℕ → Meaning = g.B.Book.meaning c.args.book.now in
    subst (λ (n : Node-F Node TypedExpr).
    TellsHeld (value_of_one m n o) c.made-in-NumberText.result)
    (sym (ap out-Node c.in-NumberText.is
    ∙ node.outs-NumberText c.in-NumberText.charset c.in-NumberText.expr))
    (c.made-in-NumberText.ensures.told _ (c.digits.ensures.told o h))

pub returns-in-Convert-clause-told : goal.returns-in-Convert-clause-told
returns-in-Convert-clause-told g c = λ o h.
    let m : ℕ → Meaning = g.B.Book.meaning c.args.book.now in
    subst (λ (n : Node-F Node TypedExpr). TellsHeld (value_of_one m n o) c.made-in-Convert.result)
    (sym (ap out-Node c.in-Convert.is ∙ node.outs-Convert c.in-Convert.to c.in-Convert.expr))
    (c.made-in-Convert.ensures.told _ (c.converted.ensures.told o h))

pub returns-in-WeightString-clause-told : goal.returns-in-WeightString-clause-told
returns-in-WeightString-clause-told g c = λ o h.
    let m : ℕ → Meaning = g.B.Book.meaning c.args.book.now in
    let cut = c.in-WeightString.cut in
    let x : TypedExpr = c.in-WeightString.expr in
    subst (λ (n : Node-F Node TypedExpr).
    TellsHeld (value_of_one m n o) c.made-in-WeightString.result)
    (sym (ap out-Node c.in-WeightString.is ∙ node.outs-WeightString cut x))
    (subst (λ (y : TypedExpr). TellsHeld (of_one (λ it. gives (weighed m cut y.ty it)) o)
    c.made-in-WeightString.result) c.get.ensures
    (c.made-in-WeightString.ensures.told _ (c.weight_value.ensures.told o h)))
