-- What is passed has no escape: the first one is that of the rest.
use Rattle.std.proofs.Common.{◌≡◌, ◌+◌, ◌-◌, ◌≤◌, length, drop}
use Rattle.std.specs.List.{position_or_len}
use Rattle.mc_print.specs.Escapes.{is_escaped}
use Rattle.mc_print.proofs.escape.plain_len.Given as goal

abbrev pub invariant-loop-passed : goal.invariant-loop-passed
invariant-loop-passed l = record {
  within : l.passed ≤ length l.text;
  first : position_or_len is_escaped l.text
      ≡ l.passed + position_or_len is_escaped (drop l.passed l.text);
}

abbrev pub decreases-loop-passed : goal.decreases-loop-passed
decreases-loop-passed l = length l.text - l.passed
