use Rattle.std.proofs.Common.{ℕ, ◌<◌}
use Rattle.mc_table8.specs.Table8.{IsByteEntry, byte_entry}
use Rattle.mc_table8.proofs.table8.each_fits.Given as goal

abbrev pub invariant-loop-first : goal.invariant-loop-first
invariant-loop-first l =
    (byte : ℕ) → byte < l.first-index → IsByteEntry (byte_entry l.entries byte)
