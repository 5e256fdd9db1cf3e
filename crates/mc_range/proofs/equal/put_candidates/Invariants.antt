use Rattle.std.proofs.Common.{◌≡◌, ◌++◌, ◌+◌, length, map}
use Rattle.mc_range.specs.Candidates.{candidates}
use Rattle.mc_range.specs.Intervals.{around}
use Rattle.mc_range.proofs.Loops.{fronts_from}
use Rattle.mc_range.proofs.equal.put_candidates.Given as goal

abbrev pub invariant-loop-size : goal.invariant-loop-size
invariant-loop-size g l =
    let m = g.C.Collation.meaning l.collation in
    (l.size-end ≡ length l.weights + 1)
    × (l.out ++ map (around m) (fronts_from m.tails l.weights l.size (length l.weights + 1))
    ≡ l.fn.out ++ map (around m) (candidates l.shortest m.tails l.weights))
