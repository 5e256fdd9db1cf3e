use Rattle.std.proofs.Common.{◌≡◌, ◌≤◌, ◌-◌, false, drop, length}
use Rattle.mc_token.specs.Elements.{elements}
use Rattle.mc_token.specs.Statements.{statements_in}
use Rattle.mc_token.proofs.statement.statement_start.Given as goal

-- What is left of the script has the same statements.
abbrev pub invariant-loop-at : goal.invariant-loop-at
invariant-loop-at l = record {
  same : statements_in false l.from (elements (drop l.from l.script)) ≡ statements_in false l.at (elements (drop l.at l.script));
  begins : l.from ≤ l.at;
}

abbrev pub decreases-loop-at : goal.decreases-loop-at
decreases-loop-at l = length l.script - l.at
