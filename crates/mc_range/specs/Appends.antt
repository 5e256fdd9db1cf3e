-- Intervals appended to a list, unless they would be too many.
use Rattle.std.specs.Prelude.{◌≡◌, ◌<◌, ◌≤◌, ◌+◌, List, ◌++◌, length}
use Rattle.mc_range.specs.declared.equal.Put.{Put}
use Rattle.mc_range.specs.declared.equal.Put.TheVariants.{All, TooMany}
use Rattle.mc_range.specs.declared.interval.Interval.{Interval}
use Rattle.mc_range.specs.Intervals.{most_intervals}

-- Where all were appended they are not too many, and else they would have been.
abbrev pub Appends : Put → (before after more : List Interval) → Type 0
Appends All before after more =
    (after ≡ before ++ more) × (length before + length more ≤ most_intervals)
Appends TooMany before after more = most_intervals < length before + length more
