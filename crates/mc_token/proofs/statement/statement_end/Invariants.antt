use Rattle.std.proofs.Common.{◌≡◌, ◌≤◌, ◌+◌, ◌-◌, true, drop, length}
use Rattle.mc_token.specs.Elements.{elements}
use Rattle.mc_token.specs.Statements.{statements_in, statement_len}
use Rattle.mc_token.proofs.statement.statement_end.Given as goal

-- What is left of the script has the rest of the statement, and the same statements behind it.
abbrev pub invariant-loop-at : goal.invariant-loop-at
invariant-loop-at l = record {
  value : l.from + statement_len (elements (drop l.from l.script)) ≡ l.at + statement_len (elements (drop l.at l.script));
  rest : statements_in true l.from (elements (drop l.from l.script)) ≡ statements_in true l.at (elements (drop l.at l.script));
  within : l.at ≤ length l.script;
}

abbrev pub decreases-loop-at : goal.decreases-loop-at
decreases-loop-at l = length l.script - l.at
