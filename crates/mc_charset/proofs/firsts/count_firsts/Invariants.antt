use Rattle.std.proofs.Common.{◌≡◌, ◌≤◌, length, filter, take}
use Rattle.mc_charset.specs.CharStart.{is_not_behind}
use Rattle.mc_charset.proofs.firsts.count_firsts.Given as goal

abbrev pub invariant-loop-byte : goal.invariant-loop-byte
invariant-loop-byte l = record {
  counted : l.count ≡ length (filter is_not_behind (take l.byte-index l.text));
  small : l.count ≤ l.byte-index;
}
