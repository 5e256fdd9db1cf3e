-- No longer beginning of the text is a contraction.
use Rattle.std.proofs.Common.{◌≤◌, length}
use Rattle.mc_allkeys.specs.Longest.{HasNoLonger}
use Rattle.mc_allkeys.proofs.contractions.Contractions.longest.Given as goal

abbrev pub invariant-loop-len : goal.invariant-loop-len
invariant-loop-len l = record {
  within : l.len ≤ length l.text;
  none_longer : HasNoLonger l.self l.text l.len;
}

abbrev pub decreases-loop-len : goal.decreases-loop-len
decreases-loop-len l = l.len
