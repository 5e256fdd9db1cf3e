-- Each record that a reader gives is the next one of the text.
use Rattle.std.proofs.Common.{Bor, Bool, ℕ, List, Some, sym, subst}
use Rattle.csv.specs.Reading.{ReadRecord}
use Rattle.csv.specs.Records.{fields_of}
use Rattle.mc_values.specs.declared.value.Value.{Value}
use Rattle.mc_rows.proofs.Reading.{IsReading, next_row, next_texts, no_next, started}
use Rattle.mc_rows.proofs.Refused.{refused_next}
use Rattle.mc_rows.proofs.load.read_each.Goals as goal

pub loop-line-init : goal.loop-line-init
loop-line-init c =
    let rem = λ (s : Bor (List ℕ)). Some s.now in
    let given = c.requires in
    subst (λ (rows : List (List Value)). IsReading rem c.args.catalog.now.collations c.args.columns.now c.args.text.now c.args.reader.now rows) (sym given.empty)
    (started rem c.args.catalog.now.collations c.args.columns.now c.args.text.now c.args.reader.now (given.utf8, given.below_4_gib) given.untrimmed given.is_ready given.configured given.source given.state)

pub add_row-requires-clause-texts : goal.add_row-requires-clause-texts
add_row-requires-clause-texts c =
    let rem = λ (s : Bor (List ℕ)). Some s.now in
    let inv = c.loop-line.invariant in
    let fields = fields_of c.read_byte_record.new.row in
    let read = subst (λ (found : Bool). ReadRecord rem c.loop-line.reader c.read_byte_record.new.self found fields) c.in-Ok-true.field-0-test (c.in-Ok-true.ensures.reads inv.untrimmed inv.is_ready) in
    next_texts rem c.args.catalog.now.collations c.args.columns.now c.args.text.now c.loop-line.reader c.read_byte_record.new.self fields c.loop-line.rows inv read

pub loop-line-preserved : goal.loop-line-preserved
loop-line-preserved c =
    let rem = λ (s : Bor (List ℕ)). Some s.now in
    let inv = c.loop-line.invariant in
    let fields = fields_of c.read_byte_record.new.row in
    let read = subst (λ (found : Bool). ReadRecord rem c.loop-line.reader c.read_byte_record.new.self found fields) c.in-Ok-true.field-0-test (c.in-Ok-true.ensures.reads inv.untrimmed inv.is_ready) in
    next_row rem c.args.catalog.now.collations c.args.columns.now c.args.text.now c.loop-line.reader c.read_byte_record.new.self fields c.loop-line.rows c.add_row.new.rows inv read
    (c.in-Ok-true.ensures.ready inv.untrimmed) c.in-Ok.ensures.added

pub returns-in-Err-add_row-clause-refused : goal.returns-in-Err-add_row-clause-refused
returns-in-Err-add_row-clause-refused c =
    let rem = λ (s : Bor (List ℕ)). Some s.now in
    let inv = c.loop-line.invariant in
    let fields = fields_of c.read_byte_record.new.row in
    let read = subst (λ (found : Bool). ReadRecord rem c.loop-line.reader c.read_byte_record.new.self found fields) c.in-Ok-true.field-0-test (c.in-Ok-true.ensures.reads inv.untrimmed inv.is_ready) in
    refused_next rem c.args.catalog.now.collations c.args.columns.now c.args.text.now c.loop-line.reader c.read_byte_record.new.self fields c.loop-line.rows c.in-Err-add_row.fault
    c.requires.utf8 inv read c.in-Err-add_row.ensures.told

pub returns-in-Ok-false-clause-loaded : goal.returns-in-Ok-false-clause-loaded
returns-in-Ok-false-clause-loaded c =
    let rem = λ (s : Bor (List ℕ)). Some s.now in
    let inv = c.loop-line.invariant in
    let fields = fields_of c.read_byte_record.new.row in
    let read = subst (λ (found : Bool). ReadRecord rem c.loop-line.reader c.read_byte_record.new.self found fields) c.in-Ok-false.field-0-test (c.in-Ok-false.ensures.reads inv.untrimmed inv.is_ready) in
    no_next rem c.args.catalog.now.collations c.args.columns.now c.args.text.now c.loop-line.reader c.read_byte_record.new.self fields c.loop-line.rows inv read
