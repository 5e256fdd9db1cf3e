use Rattle.mc_coerce.proofs.AnyOrder.{any_order, one_winner, one_shared_set, won}
use Rattle.mc_coerce.proofs.Mixes.{compared, shared}
use Rattle.mc_coerce.proofs.laws.order_law.Goals as goal

pub returns : goal.returns
returns c = record {
  any_order = any_order;
  one_winner = one_winner;
  one_set = one_shared_set;
  won = won;
  compared = compared;
  shared = shared;
}
