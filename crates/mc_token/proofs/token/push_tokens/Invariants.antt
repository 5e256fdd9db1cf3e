use Rattle.std.proofs.Common.{◌≡◌, ◌-◌, ◌≤◌, drop, length}
use Rattle.mc_token.specs.Tokens.{all_tokens, tokens_in, with_front, token_limit}
use Rattle.mc_token.proofs.token.push_tokens.Given as goal

-- The tokens so far, and those of what is left of the statement, are all tokens.
abbrev pub invariant-loop-at : goal.invariant-loop-at
invariant-loop-at l = record {
  same : with_front l.tokens (tokens_in l.end l.at (drop l.at l.script)) ≡ all_tokens l.script l.fn.statement;
  few : length l.tokens ≤ token_limit;
  within : l.at ≤ l.end;
}

abbrev pub decreases-loop-at : goal.decreases-loop-at
decreases-loop-at l = l.end - l.at
