use Rattle.std.proofs.Common.{◌≡◌, ◌≤◌, length, drop, filter}
use Rattle.mc_order.specs.Tails.{tails_of}
use Rattle.mc_allkeys.specs.Table.{contractions_of}
use Rattle.mc_uca.specs.Weighing.{is_of_set, uca_list}
use Rattle.mc_uca.proofs.weigher.Weigher.tails.Given as goal

abbrev pub invariant-loop-place : goal.invariant-loop-place
invariant-loop-place l = record {
  within : l.place ≤ length (contractions_of l.self.keys.entries);
  tails : l.tails.items ≡ tails_of (uca_list l.self.charset l.self.kind l.self.keys 1)
      (filter (is_of_set l.self.charset) (drop l.place (contractions_of l.self.keys.entries)));
}

abbrev pub decreases-loop-place : goal.decreases-loop-place
decreases-loop-place l = l.place
