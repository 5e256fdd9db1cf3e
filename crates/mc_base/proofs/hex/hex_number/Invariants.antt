-- The digits so far have a value, below a power of 16.
use Rattle.std.proofs.Common.{◌≡◌, ◌<◌, ◌^◌, Some, take}
use Rattle.mc_base.specs.Hex.{hex_value}
use Rattle.mc_base.proofs.hex.hex_number.Given as goal

abbrev pub invariant-loop-code : goal.invariant-loop-code
invariant-loop-code l = record {
  value : hex_value (take l.code-index l.digits) ≡ Some l.number;
  small : l.number < 16 ^ l.code-index;
}
