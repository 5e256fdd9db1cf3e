use Rattle.mc_key.proofs.Fronts.{fronts_decide}
use Rattle.mc_key.proofs.front.front_law.Goals as goal

pub returns : goal.returns
returns c = fronts_decide c.order_laws.ensures.total
