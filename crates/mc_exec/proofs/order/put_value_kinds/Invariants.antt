-- So far those of the expressions in front of this one.
use Rattle.std.proofs.Common.{◌≡◌, map, take}
use Rattle.mc_exec.specs.Ordered.{kind_of}
use Rattle.mc_exec.proofs.order.put_value_kinds.Given as goal

abbrev pub invariant-loop-e : goal.invariant-loop-e
invariant-loop-e l = l.kinds ≡ map (λ e. kind_of e.ty) (take l.e-index l.exprs)
