use Rattle.std.proofs.Common.{◌++◌, List, ℕ, ap, ◌∙◌}
use Rattle.std.specs.List.{repeat}
use Rattle.std.proofs.lemmas.Result.{IfOk-weaker}
use Rattle.mc_strfun.proofs.Limits.{in_blocks}
use Rattle.mc_strfun.proofs.copies.push_blocks.Goals as goal

pub returns : goal.returns
returns c =
    let text = c.args.text.now in
    IfOk-weaker c.push_each-3.result _ _
    (λ _value h. h ∙ in_blocks c.args.count c.args.each text c.as_slice.result.now c.args.out.now c.push_each-2.new.out
    (c.as_slice.ensures ∙ c.in_ok-push_each.ensures ∙ ap (λ (b : List ℕ). b ++ repeat c.args.each text) (c.reserve.ensures ∙ c.new-block.ensures)) c.in_ok-push_each-2.ensures)
    c.push_each-3.ensures
