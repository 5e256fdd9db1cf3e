use Rattle.std.proofs.Common.{ap, ◌∙◌, to_z-of_z}
use Rattle.std.specs.List.{repeat}
use Rattle.mc_charset.specs.Chars.{chars}
use Rattle.mc_strfun.specs.Numbers.{natural}
use Rattle.mc_values.specs.Values.{within_limit}
use Rattle.mc_eval.proofs.pads.copies_text.Goals as goal

pub returns-in-Ok : goal.returns-in-Ok
returns-in-Ok c =
    let set = c.args.set in
    let text = c.args.text.now in
    let n = natural c.args.count in
    c.repeated.ensures (repeat n (chars set text)) (repeat n text)
    (c.repeat_law.ensures set (chars set text) text n (c.chars_law.ensures.encodes set text c.requires))
    (c.in-Ok.ensures ∙ ap (λ k. within_limit (repeat (natural k) text)) (to_z-of_z c.ranges.count))
