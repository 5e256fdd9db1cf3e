-- The bytes so far stand before those that the rest of the digits write.
use Rattle.std.proofs.Common.{◌≡◌, ◌++◌, length}
use Rattle.std.specs.Prelude.{option_map}
use Rattle.mc_rows.specs.HexBytes.{hex_bytes}
use Rattle.mc_rows.proofs.hex.push_bytes.Given as goal

abbrev pub invariant-loop-rest : goal.invariant-loop-rest
invariant-loop-rest l = hex_bytes l.field ≡ option_map (λ more. l.bytes ++ more) (hex_bytes l.rest)

abbrev pub decreases-loop-rest : goal.decreases-loop-rest
decreases-loop-rest l = length l.rest
