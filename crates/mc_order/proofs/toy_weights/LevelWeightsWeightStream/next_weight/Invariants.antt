use Rattle.std.proofs.Common.{◌≡◌, None, length}
use Rattle.mc_order.specs.Toy.{toy_list}
use Rattle.mc_order.proofs.toy_weights.LevelWeightsWeightStream.next_weight.Given as goal

abbrev pub invariant-loop-piece : goal.invariant-loop-piece
invariant-loop-piece l = record {
  second : l.self.second ≡ None;
  level : l.self.level ≡ l.fn.self.level;
  left : toy_list 0 l.self.level l.self.text.now ≡ toy_list 0 l.fn.self.level l.fn.self.text.now;
  was : l.fn.self.second ≡ None;
}

abbrev pub decreases-loop-piece : goal.decreases-loop-piece
decreases-loop-piece l = length l.self.text.now
