use Rattle.std.proofs.Common.{◌≡◌, ◌+◌, ◌-◌, ◌≤◌, length, filter, take}
use Rattle.mc_charset.specs.CharStart.{is_not_behind}
use Rattle.mc_charset.proofs.firsts.pass_blocks.Given as goal

abbrev pub invariant-loop-start : goal.invariant-loop-start
invariant-loop-start l = record {
  within : l.start ≤ length l.text;
  counted : length (filter is_not_behind (take l.start l.text)) + l.left ≡ l.k;
}

abbrev pub decreases-loop-start : goal.decreases-loop-start
decreases-loop-start l = length l.text - l.start
