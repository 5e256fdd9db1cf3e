use Rattle.std.proofs.Common.{◌≡◌, ◌≤◌, ◌+◌, length}
use Rattle.mc_range.specs.Candidates.{candidates}
use Rattle.mc_range.specs.Places.{best_on, place_list}
use Rattle.mc_range.proofs.Loops.{each_before, fronts_from}
use Rattle.mc_range.proofs.ends.best_of_candidates.Given as goal

abbrev pub invariant-loop-size : goal.invariant-loop-size
invariant-loop-size g l =
    let m = g.C.Collation.meaning l.collation in
    let behind = l.shortest.behind.now in
    (l.size-end ≡ length l.weights + 1)
    × (l.best.size ≤ l.size)
    × (l.best.size ≤ length l.weights)
    × (best_on m l.side (place_list l.weights l.best)
    (each_before behind (fronts_from m.tails l.weights l.size (length l.weights + 1)))
    ≡ best_on m l.side (place_list l.weights l.shortest)
    (each_before behind (candidates l.shortest.size m.tails l.weights)))
