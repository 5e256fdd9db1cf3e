use Rattle.std.proofs.Common.{ap}
use Rattle.mc_table8.specs.Table8Meaning.{ByteCollation}
use Rattle.mc_table8.proofs.Bytes.{text_weights, front_weights}
use Rattle.mc_table8.proofs.table8_collation.Table8CollationCollation.put_list.Goals as goal

pub returns-in-Some-clause-ok : goal.returns-in-Some-clause-ok
returns-in-Some-clause-ok c =
    let table_is = ap (λ (v : ByteCollation). v.table) c.self.view_is in
    let put = rw (table_is, c.front.ensures) at c.put_bytes.ensures.ok in
    let weights = front_weights c.args.self.now.charset c.args.self.now.table.entries
    c.args.text.now c.in-Some.count c.args.self.now.on_bytes
    (c.chars_law.ensures.decodes c.args.self.now.charset) c.requires in
    rw (c.in-Some.is) (rw weights at put)

pub returns-in-None-clause-ok : goal.returns-in-None-clause-ok
returns-in-None-clause-ok c =
    let table_is = ap (λ (v : ByteCollation). v.table) c.self.view_is in
    let put = rw table_is at c.put_bytes-in-None.ensures.ok in
    let weights = text_weights c.args.self.now.charset c.args.self.now.table.entries
    c.args.text.now c.args.self.now.on_bytes
    (c.chars_law.ensures.decodes c.args.self.now.charset) c.requires in
    rw (c.in-None.is) (rw weights at put)
