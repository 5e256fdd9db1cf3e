-- So far the rows of the runs in front of this one.
use Rattle.std.proofs.Common.{◌≡◌, ◌++◌, drop}
use Rattle.mc_gather.specs.Runs.{places_from, rows_at}
use Rattle.mc_gather.proofs.gather.push_runs.Given as goal

abbrev pub invariant-loop-run : goal.invariant-loop-run
invariant-loop-run l =
    l.rows.items ++ rows_at l.index (places_from l.done (drop l.run-index l.runs))
    ≡ l.initial.rows.items ++ rows_at l.index (places_from 0 l.runs)
