use Rattle.std.proofs.Common.{◌≡◌, ◌-◌, ◌++◌, drop, length}
use Rattle.mc_token.specs.Lexemes.{content}
use Rattle.mc_token.proofs.reading.content.Given as goal

-- The text so far, and that of what is left, are the whole.
abbrev pub invariant-loop-at : goal.invariant-loop-at
invariant-loop-at l = l.text ++ content l.quote (drop l.at l.inside) ≡ content l.quote l.inside

abbrev pub decreases-loop-at : goal.decreases-loop-at
decreases-loop-at l = length l.inside - l.at
