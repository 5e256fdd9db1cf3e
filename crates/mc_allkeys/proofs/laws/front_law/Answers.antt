use Rattle.mc_allkeys.proofs.FrontLemmas.{cut-front, cut-fresh, cut-alone}
use Rattle.mc_allkeys.proofs.laws.front_law.Goals as goal

pub returns-clause-front : goal.returns-clause-front
returns-clause-front c = cut-front

pub returns-clause-fresh : goal.returns-clause-fresh
returns-clause-fresh c = cut-fresh

pub returns-clause-alone : goal.returns-clause-alone
returns-clause-alone c = cut-alone
