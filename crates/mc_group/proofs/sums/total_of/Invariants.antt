-- The numbers so far, and how great their sum may be.
use Rattle.std.proofs.Common.{◌≡◌, ◌*◌, take, pos, neg_ℤ, ◌≤ℤ◌}
use Rattle.mc_group.specs.Sums.{total}
use Rattle.mc_group.proofs.sums.total_of.Given as goal

abbrev pub invariant-loop-value : goal.invariant-loop-value
invariant-loop-value l =
    (l.sum ≡ total (take l.value-index l.values))
    × (neg_ℤ (pos (9223372036854775808 * l.value-index)) ≤ℤ l.sum)
    × (l.sum ≤ℤ pos (9223372036854775808 * l.value-index))
