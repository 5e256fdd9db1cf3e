-- No copy begins in the characters so far.
use Rattle.std.proofs.Common.{◌-◌, ◌≤◌, List, ℕ, drop, length, take}
use Rattle.mc_charset.specs.Chars.{chars, IsWellFormed}
use Rattle.mc_strfun.proofs.Replaced.{IsBuilt}
use Rattle.mc_strfun.proofs.replacement.run_in.Given as goal

abbrev pub invariant-loop-len : goal.invariant-loop-len
invariant-loop-len g l = record {
  within : l.at ≤ length l.text;
  well_formed : IsWellFormed g.E.Encoding.set (drop l.at l.text);
  kept : (to : List ℕ) → IsBuilt g.E.Encoding.set (chars g.E.Encoding.set l.from) to l.text l.at (take l.at l.text);
}

abbrev pub decreases-loop-len : goal.decreases-loop-len
decreases-loop-len g l = length l.text - l.at
