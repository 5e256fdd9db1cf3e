use Rattle.std.proofs.Common.{◌≡◌, ◌+◌, true, false, sym, ◌∙◌, subst, rules}
use Rattle.std.specs.List.{IsFirstBest}
use Rattle.std.proofs.lemmas.List.Sorted.{ranks_by}
use Rattle.std.proofs.lemmas.List.MinMax.{IsFirstBest-keeps, IsFirstBest-takes}
use Rattle.mc_values.specs.declared.value.Value.{Value}
use Rattle.mc_group.specs.Extremes.{stands_before}
use Rattle.mc_group.specs.Order.{directed, value_order}
use Rattle.mc_group.proofs.Totals.{absent_last_total}
use Rattle.mc_group.proofs.extremes.best_place.Goals as goal
use Rattle.mc_group.proofs.extremes.best_place.Goals.{then-stands_before, else-stands_before}

pub loop-i-preserved : goal.loop-i-preserved
loop-i-preserved g c =
    let meaning = g.B.Book.meaning c.args.book.now in
    let o = ranks_by
    (absent_last_total c.order_laws.ensures.total meaning c.args.kind c.args.desc)
    (λ (v : Value). v) in
    let s = c.args.values.now in
    let i = c.loop-i.i in
    let b = c.loop-i.best in
    let order = directed c.args.desc (value_order meaning c.args.kind) in
    let P = IsFirstBest (stands_before order) s (i + 1) in
    elim c.if-stands_before.branch [
      | then-stands_before w ↦
          let yes : c.stands_before.result ≡ true = search rules in
          subst P (sym w.best-is) (IsFirstBest-takes o s i b c.index-values-i.result
          c.index-values-best.result c.loop-i.invariant c.loop-i-test.true c.index-values-i.is
          c.index-values-best.is (sym c.stands_before.ensures ∙ yes))
      | else-stands_before w ↦
          let no : c.stands_before.result ≡ false = search rules in
          subst P (sym w.best-is) (IsFirstBest-keeps o s i b c.index-values-i.result
          c.index-values-best.result c.loop-i.invariant c.loop-i-test.true c.index-values-i.is
          c.index-values-best.is (sym c.stands_before.ensures ∙ no))
    ]
