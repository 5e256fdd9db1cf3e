-- So far those of the keys in front of this one.
use Rattle.std.proofs.Common.{◌≡◌, map, take}
use Rattle.mc_exec.specs.Ordered.{kind_of}
use Rattle.mc_exec.proofs.order.put_kinds.Given as goal

abbrev pub invariant-loop-key : goal.invariant-loop-key
invariant-loop-key l = l.kinds ≡ map (λ key. kind_of key.expr.ty) (take l.key-index l.orders)
