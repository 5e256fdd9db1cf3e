use Rattle.mc_charset.specs.Chars.{chars}
use Rattle.mc_rules.specs.Elements.{elements_of}
use Rattle.mc_uca.proofs.Splits.{weights_by, code_points_by}
use Rattle.mc_uca.specs.Kind.{family_of}
use Rattle.mc_uca.specs.Weighing.{set_contractions}
use Rattle.mc_uca.proofs.weigher.Weigher.weights_law.Goals as goal

pub returns : goal.returns
returns c = λ level text.
    let self = c.args.self.now in
    let each = rw c.family.ensures at c.elements_law.ensures.elements in
    weights_by (set_contractions self.charset self.keys.entries)
    (elements_of self.keys (family_of self.kind)) c.level_law.ensures.weights each
    (chars self.charset text)
    (code_points_by (chars self.charset text)
    (c.chars_law.ensures.all_code_points self.charset text)) level
