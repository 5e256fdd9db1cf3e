use Rattle.std.proofs.Common.{◌∷◌, ◌-◌, List, drop, length, refl, ap, sym, ◌∙◌, subst, arith}
use Rattle.mc_charset.specs.Chars.{chars}
use Rattle.mc_like.specs.declared.item.PatternItem.{PatternItem}
use Rattle.mc_like.specs.declared.item.PatternItem.TheVariants.{Any}
use Rattle.mc_like.specs.Items.{literal_count}
use Rattle.mc_like.specs.Like.{Like}
use Rattle.mc_like.proofs.Counts.{is_some, is_zero, literal_count-none}
use Rattle.mc_like.proofs.Items.{no_items}
use Rattle.mc_like.proofs.LastItems.{at_end, not_whole, ticks_most}
use Rattle.mc_like.proofs.Like.{Like-any_back, any_alone}
use Rattle.mc_like.proofs.ends.ends_like.Goals as goal

pub returns-then-is_empty-clause-exact : goal.returns-then-is_empty-clause-exact
returns-then-is_empty-clause-exact g c =
    let m = g.C.Collation.meaning c.args.collation.now in
    let codes = chars g.E.Encoding.set c.args.text.now in
    let none = no_items c.args.items.now
    (is_zero (length c.args.items.now) c.if-is_empty.ensures) in (
      λ h. subst (λ (items : List PatternItem). Like m (Any ∷ items) codes) (sym none)
          (any_alone m codes),
      λ h. refl,
    )

pub returns-then-is_empty-clause-each_literal : goal.returns-then-is_empty-clause-each_literal
returns-then-is_empty-clause-each_literal g c =
    let none = no_items c.args.items.now
    (is_zero (length c.args.items.now) c.if-is_empty.ensures) in
    let count = ap literal_count none ∙ literal_count-none in λ h. omega (arith, count)

pub returns-then-count-items-clause-exact : goal.returns-then-count-items-clause-exact
returns-then-count-items-clause-exact g c = (
  λ h. let never : ⊥ = cc in absurd never,
  λ h. let end = at_end (g.C.Collation.meaning c.args.collation.now) c.args.items.now
      (chars g.E.Encoding.set c.args.text.now) c.requires.no_any
      (is_some (length c.args.items.now) c.if-is_empty.ensures) h in
      absurd (omega (arith, end.0, c.if-count-items.true, c.count_in-count.ensures)),
)

pub returns-in-Whole-clause-exact : goal.returns-in-Whole-clause-exact
returns-in-Whole-clause-exact g c =
    let m = g.C.Collation.meaning c.args.collation.now in (
      λ h. Like-any_back m c.args.items.now (chars g.E.Encoding.set c.args.text.now) _
          (subst (Like m c.args.items.now) c.skip_in-end.ensures c.in-Whole.ensures.fit),
      λ h. refl,
    )

pub returns-in_default : goal.returns-in_default
returns-in_default g c =
    let m = g.C.Collation.meaning c.args.collation.now in
    let set = g.E.Encoding.set in
    let items = c.args.items.now in
    let codes = chars set c.args.text.now in
    let end = c.skip_in-end.ensures
    ∙ ap (λ n. drop (n - length items) codes) c.count_in-count.ensures in
    let refused = not_whole m set items (chars set c.skip_in-end.result.now) c.fit_front.result
    c.requires.no_any c.fit_front.ensures.fit c.in_default.not-Whole in record {
      exact = (
        λ h. let never : ⊥ = cc in absurd never,
        λ h. absurd (refused (subst (Like m items) (sym end)
            (at_end m items codes c.requires.no_any
            (is_some (length items) c.if-is_empty.ensures) h).1)),
      );
      at_most = ticks_most items _ _ c.fit_front.result c.fit_front.ensures.ticks;
      later = c.fit_front.ensures.later;
      each_literal = λ h. let never : ⊥ = cc in absurd never;
    }
