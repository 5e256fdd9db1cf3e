use Rattle.mc_index.proofs.Digits.{digits_enough, digits_least}
use Rattle.mc_index.proofs.laws.digits_law.Goals as goal

pub returns-clause-enough : goal.returns-clause-enough
returns-clause-enough c = digits_enough

pub returns-clause-least : goal.returns-clause-least
returns-clause-least c = digits_least
