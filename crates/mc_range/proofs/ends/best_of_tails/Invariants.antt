use Rattle.std.proofs.Common.{◌≡◌, ◌≤◌, ◌++◌, length, map, take, drop}
use Rattle.mc_range.specs.Places.{best_on, place_list}
use Rattle.mc_range.proofs.Loops.{each_before}
use Rattle.mc_range.proofs.ends.best_of_tails.Given as goal

abbrev pub invariant-loop-i : goal.invariant-loop-i
invariant-loop-i g l =
    let m = g.C.Collation.meaning l.collation in
    let front = take l.front.size l.weights in
    (l.i-end ≡ length m.tails)
    × (l.best.size ≤ l.front.size)
    × (best_on m l.side (place_list l.weights l.best)
    (each_before l.front.behind.now (map (λ t. front ++ t) (drop l.i m.tails)))
    ≡ best_on m l.side (place_list l.weights l.start)
    (each_before l.front.behind.now (map (λ t. front ++ t) m.tails)))
