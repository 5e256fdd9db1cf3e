use Rattle.mc_sql.proofs.Nests.{levels_nests}
use Rattle.mc_sql.proofs.nest.levels_are_nests.Goals as goal

pub returns : goal.returns
returns c = λ r tokens reading p. levels_nests r tokens reading p
