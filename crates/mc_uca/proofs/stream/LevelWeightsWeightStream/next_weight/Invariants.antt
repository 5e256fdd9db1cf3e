use Rattle.std.proofs.Common.{◌≡◌, length}
use Rattle.mc_allkeys.specs.Levels.{level_weights}
use Rattle.mc_uca.proofs.stream.LevelWeightsWeightStream.next_weight.Given as goal

abbrev pub invariant-loop-element : goal.invariant-loop-element
invariant-loop-element g l = record {
  level : l.self.level ≡ l.fn.self.level;
  left : level_weights l.self.level (g.S.ElementStream.left l.self.elements)
      ≡ level_weights l.fn.self.level (g.S.ElementStream.left l.fn.self.elements);
}

abbrev pub decreases-loop-element : goal.decreases-loop-element
decreases-loop-element g l = length (g.S.ElementStream.left l.self.elements)
