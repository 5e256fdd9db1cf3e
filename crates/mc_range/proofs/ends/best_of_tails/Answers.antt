use Rattle.std.proofs.Common.{arith, take}
use Rattle.mc_range.specs.Places.{place_list}
use Rattle.mc_range.proofs.Loops.{tail_best, tails_best}
use Rattle.mc_range.proofs.ends.best_of_tails.Goals as goal

pub loop-i-preserved : goal.loop-i-preserved
loop-i-preserved g c =
    let m = g.C.Collation.meaning c.args.collation.now in
    let weights = c.args.weights.now in (
      c.loop-i.invariant.0,
      c.better-best.ensures.size,
      tail_best m c.args.side (take c.args.front.size weights) c.args.front.behind.now m.tails
          c.loop-i.i (place_list weights c.loop-i.best) _ _ c.tail.result.now (omega arith)
          c.tail.ensures c.better-best.ensures.list c.loop-i.invariant.2,
    )

pub returns-clause-list : goal.returns-clause-list
returns-clause-list g c =
    let m = g.C.Collation.meaning c.args.collation.now in
    let weights = c.args.weights.now in
    tails_best m c.args.side (take c.args.front.size weights) c.args.front.behind.now m.tails
    c.loop-i.i (place_list weights c.loop-i.best) _ (omega arith) c.loop-i.invariant.2
