-- So far the ends are numbers of bounds.
use Rattle.std.specs.List.{All}
use Rattle.mc_range.specs.Bounds.{HasBounds}
use Rattle.mc_gather_tests.proofs.intervals.intervals_of.Given as goal

abbrev pub invariant-loop-ends : goal.invariant-loop-ends
invariant-loop-ends l = All HasBounds l.intervals
