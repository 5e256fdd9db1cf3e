-- The digits of the bytes so far are appended.
use Rattle.std.proofs.Common.{◌≡◌, ◌++◌, take}
use Rattle.mc_values.specs.Hexadecimal.{hex_digits}
use Rattle.mc_values.proofs.hexadecimal.push_pairs.Given as goal

abbrev pub invariant-loop-byte : goal.invariant-loop-byte
invariant-loop-byte l = l.out ≡ l.fn.out ++ hex_digits (take l.byte-index l.bytes)
