use Rattle.std.proofs.Common.{◌≡◌, ◌+◌, drop, map, refl, subst, sym, ap, ◌∙◌}
use Rattle.mc_eval.specs.Held.{TellsHeld}
use Rattle.mc_eval.specs.Node.{Place, place}
use Rattle.mc_eval.specs.Truths.{least, told, truth, turned}
use Rattle.mc_eval.specs.Value.{value}
use Rattle.mc_eval.specs.declared.truth.Truth.{Truth}
use Rattle.mc_eval.specs.declared.truth.Truth.TheVariants.{No}
use Rattle.mc_eval.proofs.Loops.{chained_is, join_end, join_no, join_step, joined, like_step}
use Rattle.mc_eval.proofs.Loops.{member}
use Rattle.mc_eval.proofs.walk.+walk.Goals as goal

pub operand-returns-in-Leaf-clause-told : goal.operand-returns-in-Leaf-clause-told
operand-returns-in-Leaf-clause-told g t c =
    let p : Place = place c.args.row.now c.args.aggregates.now (g.B.Book.meaning c.args.book.now) in
    subst (λ o. TellsHeld o c.leaf.result) (sym (c.in-Leaf.ensures.value p)) c.leaf.ensures.told

pub operand-returns-in-One-clause-told : goal.operand-returns-in-One-clause-told
operand-returns-in-One-clause-told g t c =
    let p : Place = place c.args.row.now c.args.aggregates.now (g.B.Book.meaning c.args.book.now) in
    subst (λ o. TellsHeld o c.on_one.result) (sym (c.in-One.ensures.value p))
    (c.on_one.ensures.told (value p c.in-One.x.now) c.operand-x.ensures.told)

pub operand-returns-in-Two-clause-told : goal.operand-returns-in-Two-clause-told
operand-returns-in-Two-clause-told g t c =
    let p : Place = place c.args.row.now c.args.aggregates.now (g.B.Book.meaning c.args.book.now) in
    subst (λ o. TellsHeld o c.on_two.result) (sym (c.in-Two.ensures.value p))
    (c.on_two.ensures.told (value p c.in-Two.x.now) (value p c.in-Two.y.now)
    c.operand-x-in-Two.ensures.told c.operand-y.ensures.told)

pub operand-returns-in-Three-clause-told : goal.operand-returns-in-Three-clause-told
operand-returns-in-Three-clause-told g t c =
    let p : Place = place c.args.row.now c.args.aggregates.now (g.B.Book.meaning c.args.book.now) in
    subst (λ o. TellsHeld o c.on_three.result) (sym (c.in-Three.ensures.value p))
    (c.on_three.ensures.told (value p c.in-Three.x.now) (value p c.in-Three.y.now)
    (value p c.in-Three.z.now) c.operand-x-in-Three.ensures.told
    c.operand-y-in-Three.ensures.told c.operand-z.ensures.told)

pub operand-returns-in-Listed-clause-told : goal.operand-returns-in-Listed-clause-told
operand-returns-in-Listed-clause-told g t c =
    let p : Place = place c.args.row.now c.args.aggregates.now (g.B.Book.meaning c.args.book.now) in
    subst (λ o. TellsHeld o c.on_list.result) (sym (c.in-Listed.ensures.value p))
    (c.on_list.ensures.told (map (value p) c.in-Listed.xs.now) c.gather-xs.ensures.told)

pub chain-returns-in-No-clause-told : goal.chain-returns-in-No-clause-told
chain-returns-in-No-clause-told g t c =
    let p : Place = place c.args.row.now c.args.aggregates.now (g.B.Book.meaning c.args.book.now) in
    let or = c.args.or in
    let xs = c.args.xs.now in
    let i = c.loop-x.x-index in
    let x = c.x-item.result in
    let it : c.in-Ok.it ≡ truth (value p x) = c.in-Ok.ensures (value p x) c.operand.ensures.told in
    let step = join_step (member p or) xs i x c.loop-x.so_far c.turned.result
    (joined (member p or) xs) c.loop-x-test.true c.x-item.is
    (c.turned.ensures ∙ ap (turned or) it) c.loop-x.invariant.told in
    let whole = join_no (least c.loop-x.so_far c.turned.result)
    (joined (member p or) (drop (i + 1) xs)) (joined (member p or) xs) step
    (sym c.least-so_far.ensures ∙ c.in-No.is) in
    subst (λ o. TellsHeld o c.made_truth.result)
    (ap told (ap (turned or) (sym whole) ∙ sym (chained_is p or xs)))
    (c.made_truth.ensures.told No refl)

pub chain-loop-x-preserved : goal.chain-loop-x-preserved
chain-loop-x-preserved g t c =
    let p : Place = place c.args.row.now c.args.aggregates.now (g.B.Book.meaning c.args.book.now) in
    let or = c.args.or in
    let xs = c.args.xs.now in
    let i = c.loop-x.x-index in
    let x = c.x-item.result in
    let it : c.in-Ok.it ≡ truth (value p x) = c.in-Ok.ensures (value p x) c.operand.ensures.told in
    record {
      told = subst (λ (s : Truth).
          least s (joined (member p or) (drop (i + 1) xs)) ≡ joined (member p or) xs)
          (sym c.least-so_far.ensures) (join_step (member p or) xs i x c.loop-x.so_far
          c.turned.result (joined (member p or) xs) c.loop-x-test.true c.x-item.is
          (c.turned.ensures ∙ ap (turned or) it) c.loop-x.invariant.told);
      work = like_step xs i x _ _ _ c.loop-x-test.true c.x-item.is c.loop-x.invariant.work
          c.operand.ensures.work;
    }

pub chain-returns-clause-told : goal.chain-returns-clause-told
chain-returns-clause-told g t c =
    let p : Place = place c.args.row.now c.args.aggregates.now (g.B.Book.meaning c.args.book.now) in
    let or = c.args.or in
    let xs = c.args.xs.now in
    let whole = join_end (member p or) xs c.loop-x.x-index c.loop-x.so_far
    (joined (member p or) xs) c.loop-x-test.false c.loop-x.invariant.told in
    subst (λ o. TellsHeld o c.made_truth-2.result)
    (ap told (ap (turned or) (sym whole) ∙ sym (chained_is p or xs)))
    (c.made_truth-2.ensures.told c.loop-x.so_far refl)
