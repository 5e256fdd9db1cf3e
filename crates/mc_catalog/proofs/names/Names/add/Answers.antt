-- The new key goes last.
use Rattle.mc_catalog.proofs.Lists.{name_added}
use Rattle.mc_catalog.proofs.names.Names.add.Goals as goal

pub returns-clause-ok : goal.returns-clause-ok
returns-clause-ok c =
    name_added (λ name. name.items) c.self.inside.set.keys c.insert.new.self.keys c.in_ok-from_slice.field-0 c.args.self.now c.args.name.now
    c.self.view_is c.in_ok-from_slice.ensures.items c.requires c.in_ok-insert.ensures.keys
