-- What is appended so far, with the rest as it is written, is the text as it is written.
use Rattle.std.proofs.Common.{◌≡◌, ◌++◌, length}
use Rattle.std.specs.List.{flat_map}
use Rattle.mc_print.specs.Escapes.{escaped_byte}
use Rattle.mc_print.proofs.escape.push_escaped.Given as goal

abbrev pub invariant-loop-byte : goal.invariant-loop-byte
invariant-loop-byte l = l.out ++ flat_map escaped_byte l.rest ≡ l.fn.out ++ flat_map escaped_byte l.text

abbrev pub decreases-loop-byte : goal.decreases-loop-byte
decreases-loop-byte l = length l.rest
