use Rattle.std.proofs.Common.{◌∙◌, ap, ◌++◌}
use Rattle.mc_key.proofs.WeightBytes.{last_bytes}
use Rattle.mc_key.proofs.strings.push_weight.Goals as goal

pub returns : goal.returns
returns c =
    c.in_ok-extend_from_slice.ensures.ok
    ∙ ap (λ t. c.args.out.now ++ t)
    (last_bytes c.args.width c.from.result c.args.added c.args.weight c.saturating_sub.result
    c.to_be_bytes-bytes.result c.requires c.from.ensures c.saturating_sub.ensures
    c.to_be_bytes-bytes.ensures)
