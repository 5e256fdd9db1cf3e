use Rattle.std.proofs.Common.{ℕ, sym, ap, ◌∙◌, subst}
use Rattle.mc_order.specs.Meaning.{Meaning}
use Rattle.mc_typing.specs.declared.typed.Node.{Node, Node-F, out-Node}
use Rattle.mc_typing.specs.declared.typed.Node.TheVariants as node
use Rattle.mc_typing.specs.declared.typed.TypedExpr.{TypedExpr}
use Rattle.mc_eval.specs.Held.{TellsHeld}
use Rattle.mc_eval.specs.Node.{within_ends}
use Rattle.mc_eval.specs.Walk.{value_of_three}
use Rattle.mc_eval.proofs.nodes.on_three.Goals as goal

pub returns-in-Between-clause-told : goal.returns-in-Between-clause-told
returns-in-Between-clause-told g c = λ o p q h k l.
    let m : ℕ → Meaning = g.B.Book.meaning c.args.book.now in
    let b = c.in-Between in
    subst (λ (n : Node-F Node TypedExpr). TellsHeld (value_of_three m n o p q) c.made_truth.result)
    (sym (ap out-Node b.is ∙ node.outs-Between b.coll b.args b.negated))
    (c.made_truth.ensures.told (within_ends m b.coll o p q) (c.ends.ensures o p q h k l))
