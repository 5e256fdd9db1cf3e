use Rattle.mc_parse.proofs.SaidWays.{not_none, not_some}
use Rattle.mc_parse.proofs.comparison.not_option.Goals as goal

pub returns-in-Some : goal.returns-in-Some
returns-in-Some c below = not_some below _ _ c.in-Some.ensures

pub returns-in-None : goal.returns-in-None
returns-in-None c below = not_none below _ c.in-None.ensures
