-- No range so far covers the code point.
use Rattle.std.proofs.Common.{◌≡◌, drop}
use Rattle.std.specs.List.{find}
use Rattle.mc_allkeys.specs.Table.{covers}
use Rattle.mc_allkeys.proofs.range.first_covering.Given as goal

abbrev pub invariant-loop-range : goal.invariant-loop-range
invariant-loop-range l =
    find (covers l.code) (drop l.range-index l.ranges) ≡ find (covers l.code) l.ranges
