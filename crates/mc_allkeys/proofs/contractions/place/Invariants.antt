-- The text stands between two places, if anywhere.
use Rattle.std.proofs.Common.{◌≤◌, ◌-◌, length}
use Rattle.mc_allkeys.proofs.PlaceLemmas.{AreBelow, AreAbove}
use Rattle.mc_allkeys.proofs.contractions.place.Given as goal

abbrev pub invariant-loop-low : goal.invariant-loop-low
invariant-loop-low l = record {
  in_order : l.low ≤ l.high;
  within : l.high ≤ length l.entries;
  below : AreBelow l.entries l.text l.low;
  above : AreAbove l.entries l.text l.high;
}

abbrev pub decreases-loop-low : goal.decreases-loop-low
decreases-loop-low l = l.high - l.low
