-- No byte so far is the quote or a backslash.
use Rattle.std.proofs.Common.{◌≡◌, ℕ, ◌<◌, ◌==◌, ◌||◌, false, get_or}
use Rattle.mc_token.specs.Bytes.{backslash}
use Rattle.mc_token.proofs.element.plain_len.Given as goal

abbrev pub invariant-loop-i : goal.invariant-loop-i
invariant-loop-i l = (k : ℕ) → k < l.i → (get_or l.bytes k 0 == l.quote || get_or l.bytes k 0 == backslash) ≡ false
