use Rattle.std.proofs.Common.{arith, refl}
use Rattle.mc_like.proofs.Counts.{no_literal}
use Rattle.mc_like.proofs.Like.{takes_each}
use Rattle.mc_like.proofs.fit.is_taken.Goals as goal

pub returns-in-One-clause-takes : goal.returns-in-One-clause-takes
returns-in-One-clause-takes g c = (
  λ h. takes_each (g.C.Collation.meaning c.args.collation.now) c.args.item c.args.code c.in-One.is,
  λ h. refl,
)

pub returns-in-One-clause-at_least : goal.returns-in-One-clause-at_least
returns-in-One-clause-at_least g c = omega (arith, no_literal c.args.item c.in-One.is)
