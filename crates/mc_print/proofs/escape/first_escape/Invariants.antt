-- No byte so far is written by an escape.
use Rattle.std.proofs.Common.{◌≡◌, ℕ, ◌<◌, false, get_or}
use Rattle.mc_print.specs.Escapes.{is_escaped}
use Rattle.mc_print.proofs.escape.first_escape.Given as goal

abbrev pub invariant-loop-i : goal.invariant-loop-i
invariant-loop-i l = (k : ℕ) → k < l.i → is_escaped (get_or l.text k 0) ≡ false
