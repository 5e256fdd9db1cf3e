use Rattle.std.proofs.Common.{◌≡◌, ◌≤◌, ◌<◌, ◌-◌, ◌∷◌, [], length, slice_index_or}
use Rattle.std.specs.declared.cmp.Ordering.TheVariants.{Less}
use Rattle.mc_order.specs.Meaning.{flat_list}
use Rattle.mc_order.specs.Order.{list_order}
use Rattle.mc_order.specs.declared.pad.Pad.TheVariants.{NoPad}
use Rattle.mc_uca.proofs.TailPlaces.{IsBehind}
use Rattle.mc_uca.specs.UcaMeaning.{uca_meaning}
use Rattle.mc_uca.proofs.weigher.Weigher.is_list_of.Given as goal

abbrev pub invariant-loop-low : goal.invariant-loop-low
invariant-loop-low l = record {
  in_order : l.low ≤ l.high;
  within : l.high ≤ length l.lists;
  behind : IsBehind (flat_list (uca_meaning l.self.charset l.self.kind l.self.keys) (l.c ∷ []))
      l.lists l.low;
  before : l.high < length l.lists →
      list_order NoPad 0 (flat_list (uca_meaning l.self.charset l.self.kind l.self.keys) (l.c ∷ []))
      (slice_index_or l.lists l.high []) ≡ Less;
}

abbrev pub decreases-loop-low : goal.decreases-loop-low
decreases-loop-low l = l.high - l.low
