use Rattle.std.proofs.Common.{◌∙◌}
use Rattle.mc_order.specs.declared.pad.Pad.TheVariants.{PadSpace as Padded}
use Rattle.mc_table8.specs.Table8.{byte_entry}
use Rattle.mc_table8.specs.Table8Meaning.{entry_weights}
use Rattle.mc_table8.proofs.Bytes.{behind_weights}
use Rattle.mc_table8.proofs.byte_weights.compare_plain.Goals as goal

pub returns : goal.returns
returns c =
    let rest = behind_weights c.order_laws.ensures.front Padded c.args.space
    (λ byte. entry_weights (byte_entry c.args.table.now.entries byte)) c.args.a.now c.args.b.now _
    c.plain_front-start.ensures.same in
    let found = c.compare_streams.ensures in
    rw (
      c.new-left.ensures.entries,
      c.new-left.ensures.whole,
      c.new-left.ensures.none,
      c.new-right.ensures.entries,
      c.new-right.ensures.whole,
      c.new-right.ensures.none,
    ) at found
    ∙ rest
