use Rattle.mc_index.proofs.OneOrder.{one_sealed}
use Rattle.mc_index.proofs.laws.seal_law.Goals as goal

pub returns : goal.returns
returns c = one_sealed c.order_laws.ensures.total
