-- Two expressions are alike where their forms have one head, and operands that are alike.
use Rattle.std.proofs.Common.{sym, ◌∙◌}
use Rattle.mc_typing.proofs.Likenesses.{alike_is, and_else, and_then}
use Rattle.mc_typing.proofs.likeness.+likeness.Goals as goal

pub alike-returns-then-same_head : goal.alike-returns-then-same_head
alike-returns-then-same_head t c =
    and_then c.same_head.result _ c.operands_alike.result _ c.same_head.ensures c.if-same_head.true
    c.operands_alike.ensures ∙ sym (alike_is c.args.a.now c.args.b.now)

pub alike-returns-else-same_head : goal.alike-returns-else-same_head
alike-returns-else-same_head t c =
    and_else c.same_head.result _ _ c.same_head.ensures c.if-same_head.false
    ∙ sym (alike_is c.args.a.now c.args.b.now)
