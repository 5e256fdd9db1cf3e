use Rattle.std.proofs.Common.{[], sym, ap, ◌∙◌}
use Rattle.std.proofs.lemmas.Result.{IfOk-weaker}
use Rattle.mc_charset.specs.Chars.{chars}
use Rattle.mc_values.specs.Values.{within_limit}
use Rattle.mc_strfun.specs.Joins.{spelled_within}
use Rattle.mc_strfun.proofs.Joined.{spelled_value}
use Rattle.mc_strfun.proofs.Lengths.{empty_spelled}
use Rattle.mc_strfun.proofs.Replaced.{replaced_nothing}
use Rattle.mc_strfun.proofs.replacement.replace.Goals as goal

pub returns-then-is_empty : goal.returns-then-is_empty
returns-then-is_empty c =
    let set = c.args.set in
    let text = c.args.text.now in
    let law = c.chars_law.ensures in
    let none = ap (λ t. chars set t) (c.is_empty.ensures.0 c.if-is_empty.true) ∙ law.decodes set [] [] (empty_spelled set) in
    IfOk-weaker c.whole.result _ _
    (λ value h. h ∙ ap (λ t. within_limit t) c.as_slice.ensures ∙ spelled_value set (chars set text) text (law.encodes set text c.requires.text)
    ∙ ap (λ codes. spelled_within set codes) (sym (replaced_nothing (chars set c.args.from.now) (chars set c.args.to.now) (chars set text) none)))
    c.whole.ensures
