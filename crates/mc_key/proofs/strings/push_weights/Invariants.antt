-- The bytes of the weights so far are appended.
use Rattle.std.proofs.Common.{◌≡◌, ◌++◌, take}
use Rattle.mc_key.specs.WeightString.{list_bytes}
use Rattle.mc_key.proofs.strings.push_weights.Given as goal

abbrev pub invariant-loop-weight : goal.invariant-loop-weight
invariant-loop-weight l =
    l.out ≡ l.fn.out ++ list_bytes l.width l.added (take l.weight-index l.list)
