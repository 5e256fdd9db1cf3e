use Rattle.std.proofs.Common.{◌≡◌, ◌≤◌, length, drop}
use Rattle.mc_order.specs.Tails.{fronts}
use Rattle.mc_uca.specs.Inserts.{tails_with}
use Rattle.mc_uca.specs.Weighing.{uca_list}
use Rattle.mc_uca.proofs.weigher.Weigher.put_tails.Given as goal

abbrev pub invariant-loop-len : goal.invariant-loop-len
invariant-loop-len l = record {
  some : 1 ≤ l.len;
  within : l.len ≤ length l.text;
  tails : l.tails.items ≡ tails_with (uca_list l.self.charset l.self.kind l.self.keys 1)
      (drop l.len (fronts l.text)) l.fn.tails.items;
}

abbrev pub decreases-loop-len : goal.decreases-loop-len
decreases-loop-len l = l.len
