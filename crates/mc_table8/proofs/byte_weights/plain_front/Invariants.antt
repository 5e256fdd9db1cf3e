use Rattle.std.proofs.Common.{◌≡◌, take}
use Rattle.mc_table8.specs.Table8Meaning.{bytes_weights}
use Rattle.mc_table8.proofs.byte_weights.plain_front.Given as goal

abbrev pub invariant-loop-i : goal.invariant-loop-i
invariant-loop-i l =
    bytes_weights l.table.entries (take l.i l.a) ≡ bytes_weights l.table.entries (take l.i l.b)
