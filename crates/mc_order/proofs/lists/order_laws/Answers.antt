use Rattle.mc_order.specs.Ascending.{same_from_equal, IsAscending-unique}
use Rattle.mc_order.proofs.Order.{list_order-is, list_order-from, list_order-total, list_order-prolonged, list_order-levels}
use Rattle.mc_order.proofs.Steps.{list_order-front}
use Rattle.mc_order.proofs.lists.order_laws.Goals as goal

pub returns : goal.returns
returns c = record {
  described = list_order-is;
  unique = list_order-from;
  total = list_order-total;
  front = list_order-front;
  same = same_from_equal;
  prolonged = list_order-prolonged;
  levels = list_order-levels;
  members = IsAscending-unique;
}
