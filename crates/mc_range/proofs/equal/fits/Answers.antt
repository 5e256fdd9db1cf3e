use Rattle.std.proofs.Common.{arith, rules}
use Rattle.mc_range.proofs.Counts.{fits_is}
use Rattle.mc_range.proofs.equal.fits.Goals as goal

pub returns : goal.returns
returns g c =
    fits_is (g.C.Collation.meaning c.args.collation.now) c.args.k c.args.made c.args.shortest _ _ _
    c.saturating_mul.result c.saturating_add-more.result c.saturating_add.result
    c.args.weights.now c.requires.shortest (omega arith) (omega arith) (search rules)
    c.saturating_mul.ensures c.saturating_add-more.ensures c.saturating_add.ensures
