use Rattle.std.proofs.Common.{◌++◌, append_assoc, ap, ◌∙◌}
use Rattle.mc_strfun.proofs.Limits.{repeat_more}
use Rattle.mc_strfun.proofs.copies.push_each.Goals as goal

pub loop-copy-preserved : goal.loop-copy-preserved
loop-copy-preserved c =
    let text = c.args.text.now in
    c.in_ok-extend_from_slice.ensures.ok ∙ ap (λ out. out ++ text) c.loop-copy.invariant
    ∙ append_assoc c.args.out.now _ text ∙ ap (λ copies. c.args.out.now ++ copies) (repeat_more c.loop-copy._copy text)
