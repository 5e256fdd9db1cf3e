use Rattle.mc_parse.proofs.Items.{order_read}
use Rattle.mc_parse.proofs.clause_order.push_order.Goals as goal

pub returns-in-Ok-push-clause-ok : goal.returns-in-Ok-push-clause-ok
returns-in-Ok-push-clause-ok c =
    order_read _ _ _ _ _ _ _ c.in-Ok.ensures.ok c.direction_option-desc.ensures
    c.in-Ok-push.ensures.ok
