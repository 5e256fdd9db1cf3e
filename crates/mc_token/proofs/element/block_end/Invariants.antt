use Rattle.std.proofs.Common.{◌≡◌, drop}
use Rattle.mc_token.specs.Elements.{block_end}
use Rattle.mc_token.proofs.element.block_end.Given as goal

-- What is left of the bytes answers for all of them.
abbrev pub invariant-loop-at : goal.invariant-loop-at
invariant-loop-at l = block_end l.at (drop l.at l.behind) ≡ block_end 1 (drop 1 l.behind)
