use Rattle.mc_allkeys.proofs.LevelLemmas.{list-step, list-front, list-fresh, list-alone, list-weights}
use Rattle.mc_allkeys.proofs.laws.level_law.Goals as goal

pub returns-clause-step : goal.returns-clause-step
returns-clause-step c = list-step

pub returns-clause-front : goal.returns-clause-front
returns-clause-front c = list-front

pub returns-clause-fresh : goal.returns-clause-fresh
returns-clause-fresh c = list-fresh

pub returns-clause-alone : goal.returns-clause-alone
returns-clause-alone c = list-alone

pub returns-clause-weights : goal.returns-clause-weights
returns-clause-weights c = list-weights
