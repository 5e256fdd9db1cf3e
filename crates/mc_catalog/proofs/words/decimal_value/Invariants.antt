-- The value of the digits so far, at most 65535.
use Rattle.std.proofs.Common.{◌≡◌, min, take}
use Rattle.mc_catalog.specs.Words.{decimal_value}
use Rattle.mc_catalog.proofs.words.decimal_value.Given as goal

abbrev pub invariant-loop-digit : goal.invariant-loop-digit
invariant-loop-digit l = l.value ≡ min 65535 (decimal_value (take l.digit-index l.digits))
