use Rattle.std.proofs.Common.{◌≡◌, ◌++◌, [], length}
use Rattle.std.specs.Option.{option_map_or}
use Rattle.mc_allkeys.specs.Levels.{level_weights}
use Rattle.mc_charset.specs.Chars.{chars}
use Rattle.mc_uca.specs.Streams.{pending_left}
use Rattle.mc_uca.specs.Weighing.{uca_list}
use Rattle.mc_uca.proofs.cursor.TextWeights.piece_weight.Given as goal

abbrev pub invariant-loop-weight : goal.invariant-loop-weight
invariant-loop-weight g l = record {
  weigher : l.self.weigher ≡ l.fn.self.weigher;
  level : l.self.level ≡ l.fn.self.level;
  left : option_map_or (λ p. level_weights p.level (pending_left p.elements)) l.self.piece []
      ++ uca_list l.self.weigher.now.charset l.self.weigher.now.kind l.self.weigher.now.keys
      l.self.level (chars g.E.Encoding.set l.self.text.now)
      ≡ option_map_or (λ p. level_weights p.level (pending_left p.elements)) l.fn.self.piece []
      ++ uca_list l.fn.self.weigher.now.charset l.fn.self.weigher.now.kind
      l.fn.self.weigher.now.keys l.fn.self.level (chars g.E.Encoding.set l.fn.self.text.now);
}

abbrev pub decreases-loop-weight : goal.decreases-loop-weight
decreases-loop-weight g l = length (chars g.E.Encoding.set l.self.text.now)
