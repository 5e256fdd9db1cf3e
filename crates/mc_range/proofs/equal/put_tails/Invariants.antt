use Rattle.std.proofs.Common.{◌≡◌, ◌++◌, length, map, drop}
use Rattle.mc_range.specs.Intervals.{around}
use Rattle.mc_range.proofs.equal.put_tails.Given as goal

abbrev pub invariant-loop-i : goal.invariant-loop-i
invariant-loop-i g l =
    let m = g.C.Collation.meaning l.collation in
    (l.i-end ≡ length m.tails)
    × (l.out ++ map (around m) (map (λ t. l.front ++ t) (drop l.i m.tails))
    ≡ l.fn.out ++ map (around m) (map (λ t. l.front ++ t) m.tails))
