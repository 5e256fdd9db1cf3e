use Rattle.std.proofs.Common.{◌≡◌, ◌≤◌, ◌-◌, ◌++◌, drop, length}
use Rattle.mc_token.specs.Hexadecimal.{paired}
use Rattle.mc_token.proofs.hexadecimal.push_pairs.Given as goal

-- The text so far, and the bytes of what is left, are the whole.
abbrev pub invariant-loop-at : goal.invariant-loop-at
invariant-loop-at l = record {
  same : l.text ++ paired (drop l.at l.digits) ≡ l.fn.text ++ paired l.digits;
  within : l.at ≤ length l.digits;
}

abbrev pub decreases-loop-at : goal.decreases-loop-at
decreases-loop-at l = length l.digits - l.at
