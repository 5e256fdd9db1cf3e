use Rattle.std.proofs.Common.{◌≡◌, ◌-◌, ◌≤◌, drop}
use Rattle.mc_token.specs.Tokens.{tokens_in, fault_of}
use Rattle.mc_token.proofs.token.excess.Given as goal

-- What is left of the statement has the same fault.
abbrev pub invariant-loop-at : goal.invariant-loop-at
invariant-loop-at l = record {
  same : fault_of (tokens_in l.end l.from (drop l.from l.script)) ≡ fault_of (tokens_in l.end l.at (drop l.at l.script));
  within : l.at ≤ l.end;
}

abbrev pub decreases-loop-at : goal.decreases-loop-at
decreases-loop-at l = l.end - l.at
