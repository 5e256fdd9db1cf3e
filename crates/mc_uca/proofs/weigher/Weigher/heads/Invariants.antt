use Rattle.std.proofs.Common.{◌≡◌, ◌≤◌, length, drop, filter}
use Rattle.mc_allkeys.specs.Table.{contractions_of}
use Rattle.mc_order.specs.Meaning.{flat_list}
use Rattle.mc_uca.specs.Heads.{heads_of}
use Rattle.mc_uca.specs.UcaMeaning.{uca_meaning}
use Rattle.mc_uca.specs.Weighing.{is_of_set}
use Rattle.mc_uca.proofs.weigher.Weigher.heads.Given as goal

abbrev pub invariant-loop-place : goal.invariant-loop-place
invariant-loop-place l = record {
  within : l.place ≤ length (contractions_of l.self.keys.entries);
  heads : l.heads.items
      ≡ heads_of (flat_list (uca_meaning l.self.charset l.self.kind l.self.keys))
      (filter (is_of_set l.self.charset) (drop l.place (contractions_of l.self.keys.entries)));
}

abbrev pub decreases-loop-place : goal.decreases-loop-place
decreases-loop-place l = l.place
