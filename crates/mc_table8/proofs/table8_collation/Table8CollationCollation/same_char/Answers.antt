use Rattle.std.proofs.Common.{ap}
use Rattle.mc_table8.specs.Table8Meaning.{ByteCollation}
use Rattle.mc_table8.proofs.SameChar.{same_char_is}
use Rattle.mc_table8.proofs.table8_collation.Table8CollationCollation.same_char.Goals as goal

pub returns : goal.returns
returns c =
    rw (
      ← ap (λ (v : ByteCollation). v.charset) c.self.view_is,
      ← ap (λ
          (v : ByteCollation). v.table) c.self.view_is,
      c.eq.ensures,
    )
    (same_char_is c.self.inside.charset c.self.inside.table.entries c.args.c c.args.d
    c.byte_in-left.result c.byte_in-right.result c.weights.result c.weights-2.result
    c.byte_in-left.ensures c.byte_in-right.ensures c.weights.ensures c.weights-2.ensures)
