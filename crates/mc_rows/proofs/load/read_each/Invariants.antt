-- The records that were read have no fault, and these are their rows.
use Rattle.std.proofs.Common.{Bor, List, ℕ, Some, ◌-◌, ◌+◌, length}
use Rattle.mc_rows.specs.Records.{most_rows}
use Rattle.mc_rows.proofs.Reading.{IsReading}
use Rattle.mc_rows.proofs.load.read_each.Given as goal

abbrev pub invariant-loop-line : goal.invariant-loop-line
invariant-loop-line l =
    IsReading (λ (s : Bor (List ℕ)). Some s.now) l.catalog.collations l.columns l.text l.reader l.rows

abbrev pub decreases-loop-line : goal.decreases-loop-line
decreases-loop-line l = most_rows + 1 - length l.rows
