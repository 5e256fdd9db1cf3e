use Rattle.std.proofs.Common.{◌≡◌, ◌-◌, ◌≤◌, length, take}
use Rattle.mc_order.proofs.blocks.shared_blocks.Given as goal

abbrev pub invariant-loop-at : goal.invariant-loop-at
invariant-loop-at l = record {
  within_first : l.at ≤ length l.a;
  within_second : l.at ≤ length l.b;
  same : take l.at l.a ≡ take l.at l.b;
}

abbrev pub decreases-loop-at : goal.decreases-loop-at
decreases-loop-at l = length l.a - l.at
