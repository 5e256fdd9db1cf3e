-- A name is there exactly where it has a place.
use Rattle.std.proofs.Common.{ap, ◌∙◌}
use Rattle.std.specs.Option.{is_some}
use Rattle.std.specs.Str.{bytes_eq}
use Rattle.mc_catalog.proofs.Lists.{any_placed}
use Rattle.mc_catalog.proofs.names.Names.has.Goals as goal

pub returns : goal.returns
returns c = c.is_some.ensures ∙ ap is_some c.place_of.ensures.place ∙ any_placed (λ other. bytes_eq other c.args.name.now) c.args.self.now
