-- The fields so far have the values so far.
use Rattle.csv.specs.Records.{fields_of}
use Rattle.mc_rows.proofs.Values.{HasValues}
use Rattle.mc_rows.proofs.row.push_values.Given as goal

abbrev pub invariant-loop-column : goal.invariant-loop-column
invariant-loop-column l =
    HasValues l.catalog.collations l.columns (fields_of l.line) l.row l.column-index
