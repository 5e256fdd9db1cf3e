use Rattle.mc_gather.proofs.Space.{space_bound}
use Rattle.mc_gather.proofs.index_laws.space_law.Goals as goal

pub returns : goal.returns
returns g c =
    space_bound (g.C.Collation.meaning c.args.collation.now) c.collation_laws.ensures.lawful
    c.collation_laws.ensures.space
