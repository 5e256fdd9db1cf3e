-- The ends of intervals, of which bounds are made: MySQL 8.0 manual, 8.2.1.2, Range Optimization.
use Rattle.std.specs.Prelude.{◌≡◌, ℕ, List, Option, Some, All, IfSome}
use Rattle.mc_key.specs.Keys.{AreBoundNumbers}
use Rattle.mc_order.specs.Meaning.{Meaning}
use Rattle.mc_range.specs.Condition.{IsCondOf}
use Rattle.mc_range.specs.Intervals.{intervals_of}
use Rattle.mc_range.specs.declared.condition.Cond.{Cond}
use Rattle.mc_range.specs.declared.interval.Interval.{Interval}

-- The ends that an interval has are numbers of bounds.
pub record HasBounds (interval : Interval) : Type 0 where
  pub lo : IfSome interval.lo AreBoundNumbers
  pub hi : IfSome interval.hi AreBoundNumbers

-- The ends of the intervals that a condition names, in an index of whole texts or of first
-- characters, are numbers of bounds.
abbrev pub EndsAreBounds : Meaning → Type 0
EndsAreBounds m = (prefix : Option ℕ) (it : Cond) (intervals : List Interval)
    → IsCondOf m.charset it → intervals_of m prefix it ≡ Some intervals → All HasBounds intervals
