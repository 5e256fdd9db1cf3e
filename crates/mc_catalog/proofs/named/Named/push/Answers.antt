-- No member has the new one's name.
use Rattle.mc_catalog.proofs.Lists.{absent_named}
use Rattle.mc_catalog.proofs.named.Named.push.Goals as goal

pub add-requires : goal.add-requires
add-requires g c =
    rw c.title.ensures (absent_named g.T.Titled.title c.self.inside.members c.self.inside.names (g.T.Titled.title c.args.member) c.self.invariant (rw c.self.view_is c.requires))
