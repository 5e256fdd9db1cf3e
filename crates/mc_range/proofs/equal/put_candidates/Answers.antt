use Rattle.std.proofs.Common.{◌+◌, ◌++◌, arith, refl, ap, map, length, take}
use Rattle.mc_range.specs.Intervals.{around}
use Rattle.mc_range.proofs.Loops.{fronts_are, front_put, fronts_put}
use Rattle.mc_range.proofs.equal.put_candidates.Goals as goal

pub loop-size-init : goal.loop-size-init
loop-size-init g c =
    let m = g.C.Collation.meaning c.args.collation.now in (
      omega arith,
      ap (λ l. c.args.out.now ++ map (around m) l)
          (fronts_are m.tails c.args.weights.now c.args.shortest c.requires),
    )

pub loop-size-preserved : goal.loop-size-preserved
loop-size-preserved g c =
    let m = g.C.Collation.meaning c.args.collation.now in (
      c.loop-size.invariant.0,
      front_put (around m) m.tails c.args.weights.now c.loop-size.size
          (length c.args.weights.now + 1) c.loop-size.out _ _
          (take c.loop-size.size c.args.weights.now) (omega arith) refl c.in_ok-put_front.ensures
          c.loop-size.invariant.1,
    )

pub returns : goal.returns
returns g c =
    let m = g.C.Collation.meaning c.args.collation.now in
    fronts_put (around m) m.tails c.args.weights.now c.loop-size.size
    (length c.args.weights.now + 1) c.loop-size.out _ (omega arith) c.loop-size.invariant.1
