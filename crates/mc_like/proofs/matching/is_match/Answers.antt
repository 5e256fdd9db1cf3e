use Rattle.mc_charset.specs.Chars.{chars}
use Rattle.mc_like.proofs.Fronts.{no_fit}
use Rattle.mc_like.proofs.matching.is_match.Goals as goal

pub returns-in-Misfit-clause-exact : goal.returns-in-Misfit-clause-exact
returns-in-Misfit-clause-exact g c = (
  λ h. let never : ⊥ = cc in absurd never,
  λ h. absurd (no_fit (g.C.Collation.meaning c.args.collation.now) g.E.Encoding.set
      c.args.items.now (chars g.E.Encoding.set c.args.text.now) c.fit_front.result
      c.fit_front.ensures.fit c.in-Misfit.is h),
)
