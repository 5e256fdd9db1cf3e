use Rattle.std.proofs.Common.{ap}
use Rattle.std.specs.List.{flat_map}
use Rattle.mc_allkeys.specs.Levels.{level_weights}
use Rattle.mc_rules.specs.Elements.{elements_of}
use Rattle.mc_uca.proofs.SetLaw.{same_pieces}
use Rattle.mc_uca.specs.Kind.{family_of}
use Rattle.mc_uca.proofs.laws.uca_law.Goals as goal

pub returns : goal.returns
returns c = λ set kind table level codes chars.
    ap (λ ps. level_weights level (flat_map (elements_of table (family_of kind)) ps))
    (same_pieces c.piece_law.ensures.is c.piece_law.ensures.one c.cut_law.ensures.step set
    table.entries codes chars)
