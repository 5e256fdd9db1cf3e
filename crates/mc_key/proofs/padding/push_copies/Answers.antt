use Rattle.std.proofs.Common.{◌++◌, append_assoc, ap, ◌∙◌}
use Rattle.mc_key.proofs.Copies.{repeat_more}
use Rattle.mc_key.proofs.padding.push_copies.Goals as goal

pub loop-copy-preserved : goal.loop-copy-preserved
loop-copy-preserved c =
    let bytes = c.args.bytes.now in
    c.in_ok-extend_from_slice.ensures.ok ∙ ap (λ out. out ++ bytes) c.loop-copy.invariant
    ∙ append_assoc c.args.out.now _ bytes
    ∙ ap (λ copies. c.args.out.now ++ copies) (repeat_more c.loop-copy._copy bytes)
