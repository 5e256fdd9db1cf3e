use Rattle.mc_allkeys.proofs.PlaceLemmas.{none_is}
use Rattle.mc_allkeys.proofs.contractions.Contractions.new.Goals as goal

pub returns : goal.returns
returns c = none_is c.new.result.items c.new.ensures.items
