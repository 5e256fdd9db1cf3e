use Rattle.std.proofs.Common.{ℕ, sym, ap, ◌∙◌, subst}
use Rattle.mc_order.specs.Meaning.{Meaning}
use Rattle.mc_typing.specs.declared.typed.Node.{Node, Node-F, out-Node}
use Rattle.mc_typing.specs.declared.typed.Node.TheVariants as node
use Rattle.mc_typing.specs.declared.typed.TypedExpr.{TypedExpr}
use Rattle.mc_eval.specs.Held.{TellsHeld}
use Rattle.mc_eval.specs.Walk.{value_of_list}
use Rattle.mc_eval.proofs.nodes.on_list.Goals as goal

pub returns-in-In-clause-told : goal.returns-in-In-clause-told
returns-in-In-clause-told g c = λ os h.
    let m : ℕ → Meaning = g.B.Book.meaning c.args.book.now in
    subst (λ (n : Node-F Node TypedExpr). TellsHeld (value_of_list m n c.args.ty os) c.found.result)
    (sym (ap out-Node c.in-In.is ∙ node.outs-In c.in-In.coll c.in-In.args c.in-In.negated))
    (c.found.ensures.told os h)

pub returns-in-Call-clause-told : goal.returns-in-Call-clause-told
returns-in-Call-clause-told g c = λ os h.
    let m : ℕ → Meaning = g.B.Book.meaning c.args.book.now in
    subst (λ (n : Node-F Node TypedExpr). TellsHeld (value_of_list m n c.args.ty os) c.made.result)
    (sym (ap out-Node c.in-Call.is ∙ node.outs-Call c.in-Call.name c.in-Call.uses c.in-Call.args))
    (c.made.ensures.told _ (c.call.ensures.told os h))
