use Rattle.std.proofs.Common.{[], refl, ap, ◌∙◌}
use Rattle.std.specs.Option.{option_map_or}
use Rattle.mc_allkeys.specs.Levels.{level_weights}
use Rattle.mc_uca.specs.Streams.{pending_left}
use Rattle.mc_uca.proofs.cursor.TextWeights.at_hand.Goals as goal

pub returns-in-None : goal.returns-in-None
returns-in-None g c = (
  c.in-None.is,
  refl,
  refl,
  refl,
  ap (λ p. option_map_or (λ w. level_weights w.level (pending_left w.elements)) p []) c.in-None.is,
)

pub returns : goal.returns
returns g c = (
  refl,
  refl,
  refl,
  refl,
  ap (λ p. option_map_or (λ w. level_weights w.level (pending_left w.elements)) p []) c.in-Some.is
      ∙ c.in_default.ensures.0,
)
