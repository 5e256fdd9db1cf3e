use Rattle.std.proofs.Common.{◌≡◌, ◌≤◌, length, take}
use Rattle.mc_order.proofs.SharedStart.{NoneBehind}
use Rattle.mc_order.proofs.shared.shared_start.Given as goal

abbrev pub invariant-loop-charset : goal.invariant-loop-charset
invariant-loop-charset l = record {
  same : take l.start l.a ≡ take l.start l.b;
  within_first : l.start ≤ length l.a;
  within_second : l.start ≤ length l.b;
  none_behind : NoneBehind l.charset l.a l.b l.start;
}

abbrev pub decreases-loop-charset : goal.decreases-loop-charset
decreases-loop-charset l = l.start
