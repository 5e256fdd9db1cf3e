use Rattle.std.proofs.Common.{◌∙◌}
use Rattle.mc_order.proofs.Order.{list_order-same_front, list_order-other_front}
use Rattle.mc_order.proofs.lists.compare_lists.Goals as goal

pub returns-in-Equal : goal.returns-in-Equal
returns-in-Equal c =
    c.order_behind.ensures ∙ list_order-same_front c.args.pad c.args.space _ _ _
    c.min-shared.ensures c.in-Equal.ensures

pub returns-in_default : goal.returns-in_default
returns-in_default c =
    let h = c.cmp.ensures in let n = c.in_default.not-Equal in
    h ∙ list_order-other_front c.args.pad c.args.space _ _ _ c.min-shared.ensures (λ e. n (h ∙ e))
