-- Behind `len` weights there are spaces alone.
use Rattle.std.proofs.Common.{◌≡◌, ◌≤◌, length, take}
use Rattle.mc_key.specs.Keys.{without_spaces}
use Rattle.mc_key.proofs.key.len_without_spaces.Given as goal

abbrev pub invariant-loop-len : goal.invariant-loop-len
invariant-loop-len l =
    (l.len ≤ length l.list)
    × (without_spaces l.space (take l.len l.list) ≡ without_spaces l.space l.list)

abbrev pub decreases-loop-len : goal.decreases-loop-len
decreases-loop-len l = l.len
