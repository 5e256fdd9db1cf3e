use Rattle.std.proofs.Common.{◌≡◌, ◌≤◌, take}
use Rattle.std.specs.Str.Parse.{digits_value}
use Rattle.mc_token.specs.Numbers.{greatest_int}
use Rattle.mc_token.proofs.number.int_of.Given as goal

-- The value so far is that of the digits so far, and isn't too great.
abbrev pub invariant-loop-digit : goal.invariant-loop-digit
invariant-loop-digit l = record {
  value : l.value ≡ digits_value 10 (take l.digit-index l.digits);
  small : l.value ≤ greatest_int;
}
