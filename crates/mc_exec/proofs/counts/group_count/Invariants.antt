use Rattle.std.proofs.Common.{◌≡◌, ◌+◌, ◌≤◌, drop, length}
use Rattle.mc_exec.specs.Steps.{picked}
use Rattle.mc_exec.proofs.counts.group_count.Given as goal

abbrev pub invariant-loop-number : goal.invariant-loop-number
invariant-loop-number l = (l.count ≤ l.number-index)
    × (l.count + length (picked l.count (drop l.number-index l.numbers)
    (drop l.number-index l.numbers))
    ≡ length (picked 0 l.numbers l.numbers))
