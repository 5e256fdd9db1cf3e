-- So far the runs of the intervals in front of this one.
use Rattle.std.proofs.Common.{◌≡◌, ◌≤◌, ◌+◌, ◌*◌, length, map, take}
use Rattle.mc_gather.specs.Runs.{run_of}
use Rattle.mc_index.specs.Digits.{binary_digits}
use Rattle.mc_gather.proofs.gather.put_runs.Given as goal

abbrev pub invariant-loop-interval : goal.invariant-loop-interval
invariant-loop-interval g l =
    (l.runs.items ≡ map (run_of l.index) (take l.interval-index l.intervals))
    × (l.initial.work ≤ l.work)
    × (l.work ≤ l.initial.work + l.interval-index * (2 * binary_digits (length l.index.entries)))
