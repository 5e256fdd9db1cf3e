use Rattle.mc_parse.proofs.Items.{item_put}
use Rattle.mc_parse.proofs.clause_items.push_item.Goals as goal

pub returns-in-Ok-push-clause-ok : goal.returns-in-Ok-push-clause-ok
returns-in-Ok-push-clause-ok c =
    item_put _ _ _ _ _ _ _ c.in-Ok.ensures.ok c.in-Ok-with_alias.ensures.ok c.in-Ok-push.ensures.ok
