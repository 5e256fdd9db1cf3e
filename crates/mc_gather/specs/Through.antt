-- The rows that an index has in intervals: MySQL 8.0 manual, 8.2.1.2, Range Optimization.
use Rattle.std.specs.Prelude.{◌≡◌, ◌↔◌, ◌≤◌, ℕ, List, All}
use Rattle.std.specs.List.{Contains}
use Rattle.std.specs.List.Sorted.{IsStrictlyIncreasing}
use Rattle.mc_index.specs.Entries.{SeenEntry, SeenIndex}
use Rattle.mc_index.specs.Laws.{IsBetween}
use Rattle.mc_order.specs.Laws.{greatest_weight}
use Rattle.mc_range.specs.Bounds.{HasBounds}
use Rattle.mc_range.specs.declared.interval.Interval.{Interval}

-- The entry's key lies in one of the intervals.
abbrev pub IsWithin : SeenIndex → List Interval → SeenEntry → Type 0
IsWithin index intervals entry = (interval : Interval) × Contains intervals interval
    × IsBetween index interval.lo interval.hi entry

-- The row has an entry whose key lies in one of the intervals.
abbrev pub IsReached : SeenIndex → List Interval → ℕ → Type 0
IsReached index intervals row = (entry : SeenEntry) × Contains index.entries entry
    × (entry.row ≡ row) × IsWithin index intervals entry

-- The numbers of the rows that the index has in the intervals, each once, in ascending order.
pub record AreRowsThrough (index : SeenIndex) (intervals : List Interval) (rows : List ℕ)
    : Type 0 where
  pub ascending : IsStrictlyIncreasing rows
  pub exact : (row : ℕ) → Contains rows row ↔ IsReached index intervals row

-- Bounds can be made of the intervals' ends, for the index's keys.
pub record AreBounds (index : SeenIndex) (intervals : List Interval) : Type 0 where
  pub space : index.space ≤ greatest_weight
  pub ends : All HasBounds intervals
