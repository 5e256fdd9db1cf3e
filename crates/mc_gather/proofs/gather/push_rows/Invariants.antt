-- So far the rows of the entries in front of this place.
use Rattle.std.proofs.Common.{◌≡◌, ◌≤◌, ◌-◌, ◌++◌, max}
use Rattle.std.specs.List.{range_with_len}
use Rattle.mc_gather.specs.Runs.{rows_at}
use Rattle.mc_gather.proofs.gather.push_rows.Given as goal

abbrev pub invariant-loop-place : goal.invariant-loop-place
invariant-loop-place l =
    (l.from ≤ l.place) × (l.place ≤ max l.from l.end)
    × (l.rows.items
    ≡ l.initial.rows.items ++ rows_at l.index (range_with_len l.from (l.place - l.from)))
