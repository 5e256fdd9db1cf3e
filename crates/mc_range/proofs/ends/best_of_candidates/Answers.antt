use Rattle.std.proofs.Common.{◌+◌, arith, ap, length}
use Rattle.mc_range.specs.Places.{best_on, place_list}
use Rattle.mc_range.proofs.Loops.{each_before, fronts_are, front_best, fronts_best}
use Rattle.mc_range.proofs.ends.best_of_candidates.Goals as goal

pub loop-size-init : goal.loop-size-init
loop-size-init g c =
    let m = g.C.Collation.meaning c.args.collation.now in
    let weights = c.args.weights.now in (
      omega arith,
      omega arith,
      c.requires.within,
      ap (λ l. best_on m c.args.side (place_list weights c.args.shortest)
          (each_before c.args.shortest.behind.now l))
          (fronts_are m.tails weights c.args.shortest.size c.requires.within),
    )

pub loop-size-preserved : goal.loop-size-preserved
loop-size-preserved g c =
    let m = g.C.Collation.meaning c.args.collation.now in
    let weights = c.args.weights.now in
    let size = c.best_of_front-best.ensures.size in (
      c.loop-size.invariant.0,
      omega arith,
      omega arith,
      front_best m c.args.side c.args.shortest.behind.now m.tails weights c.loop-size.size
          (length weights + 1) (place_list weights c.loop-size.best) _ _ (omega arith)
          c.best_of_front-best.ensures.list c.loop-size.invariant.3,
    )

pub returns-clause-list : goal.returns-clause-list
returns-clause-list g c =
    let m = g.C.Collation.meaning c.args.collation.now in
    let weights = c.args.weights.now in
    fronts_best m c.args.side c.args.shortest.behind.now m.tails weights c.loop-size.size
    (length weights + 1) (place_list weights c.loop-size.best) _ (omega arith)
    c.loop-size.invariant.3
