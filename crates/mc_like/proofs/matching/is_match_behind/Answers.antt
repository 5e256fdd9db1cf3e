use Rattle.std.proofs.Common.{◌≡◌, zero, suc, length, refl, ap, arith}
use Rattle.mc_charset.specs.Chars.{chars}
use Rattle.mc_like.proofs.Counts.{at_most_misfit}
use Rattle.mc_like.proofs.Like.{Like-any_back, any_goes_on, any_nowhere}
use Rattle.mc_like.proofs.matching.is_match_behind.Goals as goal

pub returns-in-Whole-clause-exact : goal.returns-in-Whole-clause-exact
returns-in-Whole-clause-exact g c = (
  λ h. c.loop-gaps.invariant.0.0
      (Like-any_back (g.C.Collation.meaning c.args.collation.now) c.loop-gaps.items.now
      (chars g.E.Encoding.set c.loop-gaps.rest.now) zero c.in-Whole.ensures.fit),
  λ h. refl,
)

pub returns-in_default-clause-exact : goal.returns-in_default-clause-exact
returns-in_default-clause-exact g c = (
  λ h. let never : ⊥ = cc in absurd never,
  λ h. absurd (any_nowhere (g.C.Collation.meaning c.args.collation.now) c.loop-gaps.items.now
      (chars g.E.Encoding.set c.loop-gaps.rest.now) c.in_default.ensures c.in-Misfit.ensures.fit
      (c.loop-gaps.invariant.0.1 h)),
)

pub loop-gaps-preserved : goal.loop-gaps-preserved
loop-gaps-preserved g c =
    let set = g.E.Encoding.set in
    let first = c.in-Some.ensures.first in
    let longer : length (chars set c.loop-gaps.rest.now)
    ≡ suc (length (chars set c.in-Some.behind.now)) = ap length first in
    let ticks = c.in-Misfit.ensures.ticks in
    let on = any_goes_on (g.C.Collation.meaning c.args.collation.now) c.loop-gaps.items.now
    (chars set c.loop-gaps.rest.now) (chars set c.in-Some.behind.now) _ first
    c.in-Misfit.ensures.fit in (
      (λ h. c.loop-gaps.invariant.0.0 (on.0 h), λ h. on.1 (c.loop-gaps.invariant.0.1 h)),
      c.loop-gaps.invariant.1,
      c.loop-gaps.invariant.2,
      at_most_misfit _ c.loop-gaps.work _ _ (length (chars set c.loop-gaps.rest.now)) _ _ _
          longer ticks.0 c.loop-gaps.invariant.2 c.loop-gaps.invariant.3,
      omega (arith, c.loop-gaps.invariant.4, ticks.1),
      c.loop-gaps.invariant.5,
      omega (arith, c.loop-gaps.invariant.6, c.in-Misfit.ensures.later),
    )
