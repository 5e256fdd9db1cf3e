use Rattle.std.proofs.Common.{◌≡◌, ◌-◌, length, drop}
use Rattle.mc_token.specs.Elements.{quote_end}
use Rattle.mc_token.proofs.element.quote_end.Given as goal

-- What is left of the bytes answers for all of them.
abbrev pub invariant-loop-at : goal.invariant-loop-at
invariant-loop-at l = quote_end l.quote l.at (drop l.at l.behind) ≡ quote_end l.quote 0 l.behind

abbrev pub decreases-loop-at : goal.decreases-loop-at
decreases-loop-at l = length l.behind - l.at
