use Rattle.std.proofs.Common.{◌∙◌}
use Rattle.mc_range.proofs.Loops.{shared_front}
use Rattle.mc_range.proofs.place.later_order.Goals as goal

pub returns : goal.returns
returns c =
    c.compare_streams.ensures
    ∙ shared_front c.order_laws.ensures.front c.args.pad c.args.space c.args.weights.now _ _ _ _ _ _
    c.requires.first
