use Rattle.std.proofs.Common.{◌≡◌, ◌++◌, ◌-◌, take}
use Rattle.mc_order.proofs.stream.put_first_weights.Given as goal

abbrev pub invariant-loop : goal.invariant-loop
invariant-loop g l =
    (l.out ++ take (l.count - l.counter) (g.S.WeightStream.left l.stream)
    ≡ l.fn.out ++ take l.count (g.S.WeightStream.left l.fn.stream))
    × (take l.before l.out ≡ l.fn.out)
