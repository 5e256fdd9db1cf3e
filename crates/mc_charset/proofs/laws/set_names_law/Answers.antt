use Rattle.mc_charset.proofs.SetNames.{same_set_one}
use Rattle.mc_charset.proofs.laws.set_names_law.Goals as goal

pub returns : goal.returns
returns c = same_set_one
