use Rattle.std.proofs.Common.{ℕ, length}
use Rattle.mc_parse.proofs.StringWays.{IsJoining}
use Rattle.mc_parse.proofs.strings.more_strs.Given as goal

abbrev pub invariant-loop-more : goal.invariant-loop-more
invariant-loop-more l = (below : ℕ) → IsJoining below l.fn.place.tokens.now l.place.tokens.now
    l.fn.first l.text l.fn.extent l.last

abbrev pub decreases-loop-more : goal.decreases-loop-more
decreases-loop-more l = length l.place.tokens.now
