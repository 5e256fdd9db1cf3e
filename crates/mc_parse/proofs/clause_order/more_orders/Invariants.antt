use Rattle.std.proofs.Common.{length}
use Rattle.mc_parse.proofs.CommaLists.{IsCommaList, more_order}
use Rattle.mc_parse.proofs.clause_order.more_orders.Given as goal

abbrev pub invariant-loop-behind : goal.invariant-loop-behind
invariant-loop-behind l =
    IsCommaList more_order l.fn.place.tokens.now l.place.tokens.now l.fn.orders l.orders

abbrev pub decreases-loop-behind : goal.decreases-loop-behind
decreases-loop-behind l = length l.place.tokens.now
