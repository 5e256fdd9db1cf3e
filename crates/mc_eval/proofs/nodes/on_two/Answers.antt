use Rattle.std.proofs.Common.{ℕ, sym, ap, ◌∙◌, subst}
use Rattle.mc_order.specs.Meaning.{Meaning}
use Rattle.mc_typing.specs.declared.typed.Node.{Node, Node-F, out-Node}
use Rattle.mc_typing.specs.declared.typed.Node.TheVariants as node
use Rattle.mc_typing.specs.declared.typed.TypedExpr.{TypedExpr}
use Rattle.mc_eval.specs.Held.{TellsHeld}
use Rattle.mc_eval.specs.Walk.{value_of_two}
use Rattle.mc_eval.proofs.nodes.on_two.Goals as goal

pub returns-in-Compare-clause-told : goal.returns-in-Compare-clause-told
returns-in-Compare-clause-told g c = λ o p h k.
    let m : ℕ → Meaning = g.B.Book.meaning c.args.book.now in
    subst (λ (n : Node-F Node TypedExpr). TellsHeld (value_of_two m n o p) c.made.result)
    (sym (ap out-Node c.in-Compare.is
    ∙ node.outs-Compare c.in-Compare.op c.in-Compare.coll c.in-Compare.args))
    (c.made.ensures.told _ (c.comparison.ensures.told o p h k))

pub returns-in-Like-clause-told : goal.returns-in-Like-clause-told
returns-in-Like-clause-told g c = λ o p h k.
    let m : ℕ → Meaning = g.B.Book.meaning c.args.book.now in
    subst (λ (n : Node-F Node TypedExpr). TellsHeld (value_of_two m n o p) c.matched.result)
    (sym (ap out-Node c.in-Like.is
    ∙ node.outs-Like c.in-Like.coll c.in-Like.args c.in-Like.escape c.in-Like.negated))
    (c.matched.ensures.told o p h k)

pub returns-in-Xor-clause-told : goal.returns-in-Xor-clause-told
returns-in-Xor-clause-told g c = λ o p h k.
    let m : ℕ → Meaning = g.B.Book.meaning c.args.book.now in
    subst (λ (n : Node-F Node TypedExpr). TellsHeld (value_of_two m n o p) c.xor.result)
    (sym (ap out-Node c.in-Xor.is ∙ node.outs-Xor c.in-Xor.field-0))
    (c.xor.ensures.told o p h k)

pub returns-in-Arith-clause-told : goal.returns-in-Arith-clause-told
returns-in-Arith-clause-told g c = λ o p h k.
    let m : ℕ → Meaning = g.B.Book.meaning c.args.book.now in
    subst (λ (n : Node-F Node TypedExpr). TellsHeld (value_of_two m n o p) c.made-in-Arith.result)
    (sym (ap out-Node c.in-Arith.is ∙ node.outs-Arith c.in-Arith.op c.in-Arith.args))
    (c.made-in-Arith.ensures.told _ (c.calculated.ensures.told o p h k))
