use Rattle.std.proofs.Common.{ap, ◌∙◌}
use Rattle.mc_order.specs.declared.pad.Pad.TheVariants.{PadSpace}
use Rattle.mc_table8.specs.Table8Meaning.{ByteCollation}
use Rattle.mc_table8.proofs.Bytes.{compare_is}
use Rattle.mc_table8.proofs.table8_collation.Table8CollationCollation.compare.Goals as goal

pub returns : goal.returns
returns c =
    let table_is = ap (λ (v : ByteCollation). v.table) c.self.view_is in
    let found = rw (c.space.ensures, table_is) at c.compare_bytes.ensures in
    found ∙ compare_is c.args.self.now.charset c.args.self.now.table.entries PadSpace _ c.args.a.now
    c.args.b.now c.args.self.now.on_bytes (c.chars_law.ensures.decodes c.args.self.now.charset)
    c.requires.first c.requires.second
