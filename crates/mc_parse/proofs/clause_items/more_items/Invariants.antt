use Rattle.std.proofs.Common.{length}
use Rattle.mc_parse.proofs.CommaLists.{IsCommaList, more_item}
use Rattle.mc_parse.proofs.clause_items.more_items.Given as goal

abbrev pub invariant-loop-behind : goal.invariant-loop-behind
invariant-loop-behind l =
    IsCommaList more_item l.fn.place.tokens.now l.place.tokens.now l.fn.items l.items

abbrev pub decreases-loop-behind : goal.decreases-loop-behind
decreases-loop-behind l = length l.place.tokens.now
