use Rattle.std.proofs.Common.{◌∙◌}
use Rattle.mc_order.specs.declared.pad.Pad.TheVariants.{PadSpace as Padded}
use Rattle.mc_table8.specs.Table8.{byte_entry}
use Rattle.mc_table8.specs.Table8Meaning.{entry_weights}
use Rattle.mc_table8.proofs.Bytes.{behind_bytes}
use Rattle.mc_table8.proofs.byte_weights.compare_bytes.Goals as goal

pub returns : goal.returns
returns c =
    c.compare_plain.ensures
    ∙ behind_bytes c.order_laws.ensures.front Padded c.args.space
    (λ byte. entry_weights (byte_entry c.args.table.now.entries byte)) c.args.a.now c.args.b.now _
    c.shared_bytes-start.ensures.same
