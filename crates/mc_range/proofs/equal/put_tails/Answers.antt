use Rattle.std.proofs.Common.{arith}
use Rattle.mc_range.specs.Intervals.{around}
use Rattle.mc_range.proofs.Loops.{tail_put, tails_put}
use Rattle.mc_range.proofs.equal.put_tails.Goals as goal

pub loop-i-preserved : goal.loop-i-preserved
loop-i-preserved g c =
    let m = g.C.Collation.meaning c.args.collation.now in (
      c.loop-i.invariant.0,
      tail_put (around m) c.args.front.now m.tails c.loop-i.i c.loop-i.out _ _ c.tail.result.now
          (omega arith) c.tail.ensures c.in_ok-put_around.ensures c.loop-i.invariant.1,
    )

pub returns : goal.returns
returns g c =
    let m = g.C.Collation.meaning c.args.collation.now in
    tails_put (around m) c.args.front.now m.tails c.loop-i.i c.loop-i.out _ (omega arith)
    c.loop-i.invariant.1
