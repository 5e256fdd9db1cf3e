use Rattle.mc_allkeys.specs.Table.{contractions_of}
use Rattle.mc_rules.specs.Elements.{elements_of}
use Rattle.mc_rules.proofs.FirstWeights.{unlisted_weighs}
use Rattle.mc_rules.proofs.WeightLemmas.{small_elements}
use Rattle.mc_rules.proofs.laws.elements_law.Goals as goal

pub returns-clause-elements : goal.returns-clause-elements
returns-clause-elements c = small_elements c.args.keys.now c.keys_law.ensures c.args.kind

pub returns-clause-weights : goal.returns-clause-weights
returns-clause-weights c = λ level codes points.
    c.level_law.ensures.weights (contractions_of c.args.keys.now.entries)
    (elements_of c.args.keys.now c.args.kind) level codes
    (small_elements c.args.keys.now c.keys_law.ensures c.args.kind) points

pub returns-clause-unlisted : goal.returns-clause-unlisted
returns-clause-unlisted c = unlisted_weighs c.args.keys.now c.args.kind
