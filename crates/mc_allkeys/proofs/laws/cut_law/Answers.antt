use Rattle.mc_allkeys.proofs.PieceLemmas.{IsRightCut_unique, pieces-right, pieces-step}
use Rattle.mc_allkeys.proofs.laws.cut_law.Goals as goal

pub returns-clause-one_cut : goal.returns-clause-one_cut
returns-clause-one_cut c = IsRightCut_unique

pub returns-clause-right : goal.returns-clause-right
returns-clause-right c = pieces-right

pub returns-clause-step : goal.returns-clause-step
returns-clause-step c = pieces-step
