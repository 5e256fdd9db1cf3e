use Rattle.std.proofs.Common.{subst, sym}
use Rattle.std.proofs.Common.{List, ℕ, drop}
use Rattle.mc_charset.specs.Chars.{Spells, chars}
use Rattle.mc_strfun.proofs.Parts.{behind_spelled, rest_behind}
use Rattle.mc_strfun.proofs.part.behind.Goals as goal

pub returns-clause-spelled : goal.returns-clause-spelled
returns-clause-spelled c =
    let text = c.args.text.now in
    let codes = drop c.args.count (chars c.args.set text) in
    subst (λ (rest : List ℕ). Spells c.args.set codes rest) (sym (rest_behind c.char_start.result text))
    (behind_spelled c.args.set text _ c.args.count c.bounded.result
    (c.chars_law.ensures.encodes c.args.set text c.requires.well_formed) c.requires.below_4_gib c.bounded.ensures
    c.char_start.ensures.behind)
