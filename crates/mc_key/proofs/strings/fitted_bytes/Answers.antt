use Rattle.std.proofs.Common.{◌∙◌, ap, ◌++◌, ◌∷◌, [], ◌-◌, take}
use Rattle.std.specs.List.{repeat}
use Rattle.mc_key.proofs.Fitted.{filled_up}
use Rattle.mc_key.proofs.strings.fitted_bytes.Goals as goal

pub returns : goal.returns
returns c =
    filled_up c.args.count c.min-kept.result 0 c.args.text.now c.push_copies.new.out
    c.if-count-gt-GREATEST_STRING.false
    c.min-kept.ensures
    (c.in_ok-push_copies.ensures
    ∙ ap (λ t. t ++ repeat (c.args.count - c.min-kept.result) (0 ∷ []))
    (c.in_ok-extend_from_slice.ensures.ok
    ∙ ap (λ t. t ++ take c.min-kept.result c.args.text.now)
    (c.in_ok-reserve.ensures ∙ c.new-string.ensures)))
