-- Each field that has a value adds it to the row; a fault of a field is that of the record.
use Rattle.std.proofs.Common.{◌≡◌, ◌+◌, List, Some, Ok, Err, sym, subst, ◌∙◌, arith}
use Rattle.csv.specs.Records.{field_at, fields_of}
use Rattle.mc_catalog.specs.declared.catalog.ColumnDecl.{ColumnDecl}
use Rattle.mc_values.specs.declared.value.Value.{Value}
use Rattle.mc_rows.specs.Fields.{field_value, IsOfType}
use Rattle.mc_rows.proofs.Values.{HasValues, field_missing, text_at, value_fault, value_more, values_all}
use Rattle.mc_rows.proofs.row.push_values.Goals as goal

pub returns-in_default-clause-fault : goal.returns-in_default-clause-fault
returns-in_default-clause-fault c =
    let inv = c.loop-column.invariant in
    λ m. absurd (field_missing (fields_of c.args.line.now) c.len.result c.in_default.ensures.value (omega (arith, c.len.ensures, inv.counted, inv.as_many, c.loop-column-test.true)))

pub field_value-requires-clause-utf8 : goal.field_value-requires-clause-utf8
field_value-requires-clause-utf8 c = (text_at (fields_of c.args.line.now) c.len.result c.in-Some.field.now c.requires.texts c.in-Some.ensures.value).0

pub field_value-requires-clause-below_4_gib : goal.field_value-requires-clause-below_4_gib
field_value-requires-clause-below_4_gib c = (text_at (fields_of c.args.line.now) c.len.result c.in-Some.field.now c.requires.texts c.in-Some.ensures.value).1

pub returns-in-Err-clause-fault : goal.returns-in-Err-clause-fault
returns-in-Err-clause-fault c =
    let inv = c.loop-column.invariant in
    let fields = fields_of c.args.line.now in
    let collations = c.args.catalog.now.collations in
    let field = c.in-Some.field.now in
    let here = subst (λ n. Some field ≡ field_at fields n) (c.len.ensures ∙ inv.counted) c.in-Some.ensures.value in
    λ m. value_fault collations c.args.columns.now fields c.loop-column.row c.loop-column.column-index c.column-item.result field c.in-Err.kind inv c.loop-column-test.true here
    (subst (λ (column : ColumnDecl). field_value collations column.ty field ≡ Err c.in-Err.kind) c.column-item.is (c.in-Err.ensures.value m))

pub loop-column-preserved : goal.loop-column-preserved
loop-column-preserved c =
    let inv = c.loop-column.invariant in
    let fields = fields_of c.args.line.now in
    let collations = c.args.catalog.now.collations in
    let field = c.in-Some.field.now in
    let here = subst (λ n. Some field ≡ field_at fields n) (c.len.ensures ∙ inv.counted) c.in-Some.ensures.value in
    subst (λ (row : List Value). HasValues collations c.args.columns.now fields row (c.loop-column.column-index + 1)) (sym c.in_ok-push.ensures.ok)
    (value_more collations c.args.columns.now fields c.loop-column.row c.loop-column.column-index c.column-item.result field c.in-Ok.value inv c.loop-column-test.true here
    (subst (λ (column : ColumnDecl). field_value collations column.ty field ≡ Ok c.in-Ok.value) c.column-item.is c.in-Ok.ensures.value)
    (subst (λ (column : ColumnDecl). IsOfType collations column.ty c.in-Ok.value) c.column-item.is c.in-Ok.ensures.of_type))

pub returns-clause-values : goal.returns-clause-values
returns-clause-values c =
    (values_all c.args.catalog.now.collations c.args.columns.now (fields_of c.args.line.now) c.loop-column.row c.loop-column.column-index c.loop-column.invariant (omega arith)).0
