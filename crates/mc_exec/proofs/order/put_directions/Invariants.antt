-- So far those of the keys in front of this one.
use Rattle.std.proofs.Common.{◌≡◌, map, take}
use Rattle.mc_exec.proofs.order.put_directions.Given as goal

abbrev pub invariant-loop-key : goal.invariant-loop-key
invariant-loop-key l = l.directions ≡ map (λ key. key.desc) (take l.key-index l.orders)
