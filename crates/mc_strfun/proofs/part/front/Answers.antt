use Rattle.mc_strfun.proofs.Parts.{front_spelled}
use Rattle.mc_strfun.proofs.part.front.Goals as goal

pub returns-clause-spelled : goal.returns-clause-spelled
returns-clause-spelled c =
    let text = c.args.text.now in
    front_spelled c.args.set text _ c.args.count c.bounded.result
    (c.chars_law.ensures.encodes c.args.set text c.requires.well_formed) c.requires.below_4_gib c.bounded.ensures
    c.char_start.ensures.before
