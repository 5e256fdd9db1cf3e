-- So far those of the values in front of this one.
use Rattle.std.proofs.Common.{◌≡◌, ◌≤◌, ◌+◌, drop, length}
use Rattle.mc_exec.specs.Aggregates.{present}
use Rattle.mc_exec.proofs.counts.present_count.Given as goal

abbrev pub invariant-loop-it : goal.invariant-loop-it
invariant-loop-it l = (l.count ≤ l.it-index)
    × (l.count + length (present (drop l.it-index l.values)) ≡ length (present l.values))
