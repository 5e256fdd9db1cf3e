use Rattle.std.proofs.Common.{◌≡◌, ◌+◌, length, filter, take}
use Rattle.mc_charset.specs.CharStart.{is_not_behind}
use Rattle.mc_charset.proofs.firsts.start_of_first.Given as goal

abbrev pub invariant-loop-at : goal.invariant-loop-at
invariant-loop-at l = length (filter is_not_behind (take l.at l.text)) + l.left ≡ l.k
