use Rattle.std.proofs.Common.{◌≡◌, ℕ, ◌+◌, drop, sym, ap, ◌∙◌}
use Rattle.mc_ast.specs.declared.operators.CmpOp.TheVariants.{Eq}
use Rattle.mc_order.specs.Meaning.{Meaning}
use Rattle.mc_eval.specs.Comparisons.{compared}
use Rattle.mc_eval.specs.Truths.{least, opposite}
use Rattle.mc_eval.specs.declared.held.Held.{Held}
use Rattle.mc_eval.specs.declared.truth.Truth.{Truth}
use Rattle.mc_eval.proofs.Loops.{among_is, differs, join_end, join_no, join_step, joined}
use Rattle.mc_eval.proofs.lists.is_among.Goals as goal

pub returns-in-No : goal.returns-in-No
returns-in-No g c =
    let m : ℕ → Meaning = g.B.Book.meaning c.args.book.now in
    let it = c.args.it.now in
    let helds = c.args.members.now in
    let i = c.loop-member.member-index in
    let x = c.member-item.result in
    let f : Held → Truth = differs m c.args.coll it in
    let this : c.opposite.result ≡ f x = c.opposite.ensures
    ∙ ap opposite (c.in-Ok.ensures ∙ ap (compared m c.args.coll Eq it) c.get.ensures) in
    let step = join_step f helds i x c.loop-member.differs c.opposite.result (joined f helds)
    c.loop-member-test.true c.member-item.is this c.loop-member.invariant in
    let whole = join_no (least c.loop-member.differs c.opposite.result)
    (joined f (drop (i + 1) helds)) (joined f helds) step
    (sym c.least-differs.ensures ∙ c.in-No.is) in
    ap opposite (sym whole) ∙ sym (among_is m c.args.coll it helds)

pub returns : goal.returns
returns g c =
    let m : ℕ → Meaning = g.B.Book.meaning c.args.book.now in
    let it = c.args.it.now in
    let helds = c.args.members.now in
    let whole = join_end (differs m c.args.coll it) helds c.loop-member.member-index
    c.loop-member.differs (joined (differs m c.args.coll it) helds) c.loop-member-test.false
    c.loop-member.invariant in
    c.opposite-2.ensures ∙ (ap opposite (sym whole) ∙ sym (among_is m c.args.coll it helds))
