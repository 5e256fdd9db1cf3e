-- The place among the set's keys is that among the names.
use Rattle.mc_catalog.proofs.Lists.{place_of_key}
use Rattle.std.proofs.Common.{◌∙◌}
use Rattle.mc_catalog.proofs.names.Names.place_of.Goals as goal

pub returns-clause-place : goal.returns-clause-place
returns-clause-place c = c.get_index_of.ensures.index ∙ rw (← c.self.view_is) (place_of_key (λ name. name.items) c.self.inside.set.keys c.args.name.now)
