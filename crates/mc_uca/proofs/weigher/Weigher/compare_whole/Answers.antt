use Rattle.std.proofs.Common.{ℕ, ◌<◌, List, sym, ap, subst, ◌∙◌, arith}
use Rattle.std.specs.Ordering.{ordering_then}
use Rattle.std.specs.declared.cmp.Ordering.{Ordering}
use Rattle.mc_charset.specs.Chars.{chars}
use Rattle.mc_order.specs.Order.{list_order}
use Rattle.mc_uca.proofs.FlatOrder.{at_first, at_second, at_third, joined_levels-order}
use Rattle.mc_uca.specs.Kind.{pad_of, levels_of}
use Rattle.mc_uca.specs.UcaLaws.{unpadded}
use Rattle.mc_uca.specs.Weighing.{uca_list}
use Rattle.mc_uca.proofs.weigher.Weigher.compare_whole.Goals as goal

pub returns-then-count-lt2 : goal.returns-then-count-lt2
returns-then-count-lt2 g c =
    let self = c.args.self.now in
    let pad = pad_of self.kind in
    let n = levels_of self.kind in
    let list : List ℕ → ℕ → List ℕ = λ text level.
    uca_list self.charset self.kind self.keys level (chars self.charset text) in
    let on : ℕ → Ordering = λ level.
    list_order pad c.args.space (list c.args.a.now level) (list c.args.b.now level) in
    let few : n < 2 = subst (λ k. k < 2) c.levels-count.ensures c.if-count-lt2.true in
    rw c.requires at c.compare_on-first.ensures
    ∙ sym (joined_levels-order c.order_laws.ensures.levels n c.args.space pad (list c.args.a.now)
    (list c.args.b.now) (unpadded self.kind) (λ level. c.weights_law.ensures level c.args.a.now)
    (λ level. c.weights_law.ensures level c.args.b.now) ∙ at_first n on few)

pub returns-then-count-lt3 : goal.returns-then-count-lt3
returns-then-count-lt3 g c =
    let self = c.args.self.now in
    let pad = pad_of self.kind in
    let n = levels_of self.kind in
    let list : List ℕ → ℕ → List ℕ = λ text level.
    uca_list self.charset self.kind self.keys level (chars self.charset text) in
    let on : ℕ → Ordering = λ level.
    list_order pad c.args.space (list c.args.a.now level) (list c.args.b.now level) in
    let count = c.levels-count.ensures in
    let more = c.if-count-lt2.false in
    let few = c.if-count-lt3.true in
    let first = rw c.requires at c.compare_on-first.ensures in
    rw c.requires at c.or_on-second.ensures
    ∙ ap (λ order. ordering_then order (on 2)) first
    ∙ sym (joined_levels-order c.order_laws.ensures.levels n c.args.space pad (list c.args.a.now)
    (list c.args.b.now) (unpadded self.kind) (λ level. c.weights_law.ensures level c.args.a.now)
    (λ level. c.weights_law.ensures level c.args.b.now)
    ∙ at_second n on (omega (arith, count, more)) (omega (arith, count, few)))

pub returns : goal.returns
returns g c =
    let self = c.args.self.now in
    let pad = pad_of self.kind in
    let n = levels_of self.kind in
    let list : List ℕ → ℕ → List ℕ = λ text level.
    uca_list self.charset self.kind self.keys level (chars self.charset text) in
    let on : ℕ → Ordering = λ level.
    list_order pad c.args.space (list c.args.a.now level) (list c.args.b.now level) in
    let count = c.levels-count.ensures in
    let more = c.if-count-lt3.false in
    let first = rw c.requires at c.compare_on-first.ensures in
    let second = rw c.requires at c.or_on-second.ensures in
    rw c.requires at c.or_on.ensures
    ∙ ap (λ order. ordering_then order (on 3))
    (second ∙ ap (λ order. ordering_then order (on 2)) first)
    ∙ sym (joined_levels-order c.order_laws.ensures.levels n c.args.space pad (list c.args.a.now)
    (list c.args.b.now) (unpadded self.kind) (λ level. c.weights_law.ensures level c.args.a.now)
    (λ level. c.weights_law.ensures level c.args.b.now)
    ∙ at_third n on (omega (arith, count, more)))
