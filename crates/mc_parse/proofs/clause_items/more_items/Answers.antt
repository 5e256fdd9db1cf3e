use Rattle.mc_parse.proofs.CommaLists.{listing_start, listing_link, listing_end, listing_fault}
use Rattle.mc_parse.proofs.CommaLists.{fewer_left, more_item}
use Rattle.mc_parse.proofs.clause_items.more_items.Goals as goal

pub loop-behind-init : goal.loop-behind-init
loop-behind-init c = listing_start more_item _ _

pub loop-behind-smaller : goal.loop-behind-smaller
loop-behind-smaller c = fewer_left _ _ _ c.in-Some.ensures c.in-Ok.ensures.ok.done

pub loop-behind-preserved : goal.loop-behind-preserved
unfolding more_item
loop-behind-preserved c =
    listing_link more_item _ _ _ _ _ _ _ c.loop-behind.invariant c.in-Some.ensures
    c.in-Ok.ensures.ok

pub returns-in-Err-clause-err : goal.returns-in-Err-clause-err
unfolding more_item
returns-in-Err-clause-err c =
    listing_fault more_item _ _ _ _ _ _ c.loop-behind.invariant c.in-Some.ensures
    c.in-Err.ensures.err

pub returns-clause-ok : goal.returns-clause-ok
unfolding more_item
returns-clause-ok c = listing_end more_item _ _ _ _ c.loop-behind.invariant c.in_default.ensures
