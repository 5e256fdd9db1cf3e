use Rattle.mc_range.specs.Intervals.{around}
use Rattle.mc_range.proofs.Loops.{alone_and_tails, IfOk-weaker}
use Rattle.mc_range.proofs.equal.put_front.Goals as goal

pub returns : goal.returns
returns g c =
    let m = g.C.Collation.meaning c.args.collation.now in
    IfOk-weaker _ _
    (λ _ h. alone_and_tails (around m) c.args.front.now m.tails _ _ _ c.in_ok-put_around.ensures h)
    c.put_tails.result c.put_tails.ensures
