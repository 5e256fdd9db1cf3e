use Rattle.std.proofs.Common.{◌∙◌}
use Rattle.mc_order.proofs.BinNumbers.{behind_shared}
use Rattle.mc_order.proofs.char_weights.compare_chars.Goals as goal

pub returns : goal.returns
returns g c =
    let shared = rw c.set.ensures at c.shared_start-start.ensures.shared in
    c.compare_from.ensures
    ∙ behind_shared (g.W.CharWeight.set c.args.weigher.now) c.args.pad c.args.space
    (g.W.CharWeight.weight c.args.weigher.now) c.args.a.now c.args.b.now _ shared
