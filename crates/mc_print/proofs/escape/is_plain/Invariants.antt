-- An escape is found where one of the bytes so far is written by one.
use Rattle.std.proofs.Common.{◌≡◌, take}
use Rattle.std.specs.List.{list_any}
use Rattle.mc_print.specs.Escapes.{is_escaped}
use Rattle.mc_print.proofs.escape.is_plain.Given as goal

abbrev pub invariant-loop-byte : goal.invariant-loop-byte
invariant-loop-byte l = l.found ≡ list_any is_escaped (take l.byte-index l.block)
