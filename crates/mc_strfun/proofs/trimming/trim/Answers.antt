use Rattle.std.proofs.Common.{[], ap, ◌∙◌}
use Rattle.std.proofs.lemmas.Result.{IfOk-weaker}
use Rattle.mc_charset.specs.Chars.{chars}
use Rattle.mc_strfun.proofs.Lengths.{empty_spelled}
use Rattle.mc_strfun.proofs.Trimmed.{nothing_trimmed}
use Rattle.mc_strfun.proofs.trimming.trim.Goals as goal

pub returns-then-is_empty : goal.returns-then-is_empty
returns-then-is_empty c =
    let set = c.args.set in
    let removed = c.args.removed.now in
    let text = c.args.text.now in
    let law = c.chars_law.ensures in
    let none = ap (λ t. chars set t) (c.is_empty.ensures.0 c.if-is_empty.true) ∙ law.decodes set [] [] (empty_spelled set) in
    IfOk-weaker c.from_slice.result _ _
    (λ value h. nothing_trimmed set c.args.side (chars set removed) (chars set text) text value none (law.encodes set text c.requires.text)
    (h ∙ c.as_slice.ensures))
    c.from_slice.ensures
