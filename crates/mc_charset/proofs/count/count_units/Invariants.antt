use Rattle.std.proofs.Common.{◌≡◌, ◌+◌, ◌≤◌, length, filter}
use Rattle.mc_charset.specs.CharStart.{is_not_high, unit_firsts}
use Rattle.mc_charset.proofs.count.count_units.Given as goal

abbrev pub invariant-loop-rest : goal.invariant-loop-rest
invariant-loop-rest l = record {
  in_range : l.count + length l.rest ≤ length l.text;
  counted : l.count + length (filter is_not_high (unit_firsts l.rest)) ≡ length (filter is_not_high (unit_firsts l.text));
}

abbrev pub decreases-loop-rest : goal.decreases-loop-rest
decreases-loop-rest l = length l.rest
