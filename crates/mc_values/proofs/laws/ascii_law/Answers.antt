use Rattle.mc_values.proofs.Digits.{ascii_spelled}
use Rattle.mc_values.proofs.laws.ascii_law.Goals as goal

pub returns : goal.returns
returns c = ascii_spelled
