-- Zeros that are appended are among those that pad the bytes.
use Rattle.std.proofs.Common.{◌≡◌, ◌-◌, length}
use Rattle.mc_rows.specs.HexBytes.{padded}
use Rattle.mc_rows.proofs.hex.pad_zeros.Given as goal

abbrev pub invariant-loop-bytes : goal.invariant-loop-bytes
invariant-loop-bytes l = padded l.len l.bytes ≡ padded l.len l.fn.bytes

abbrev pub decreases-loop-bytes : goal.decreases-loop-bytes
decreases-loop-bytes l = l.len - length l.bytes
