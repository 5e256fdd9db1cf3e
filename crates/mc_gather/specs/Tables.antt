-- The rows and the indexes of a catalog's tables.
use Rattle.std.specs.Prelude.{◌≡◌, List, All, length}
use Rattle.std.specs.List.{AllZip}
use Rattle.mc_catalog.specs.declared.catalog.Catalog.{Catalog}
use Rattle.mc_catalog.specs.declared.catalog.TableDecl.{TableDecl}
use Rattle.mc_index.specs.Entries.{SeenIndex}
use Rattle.mc_rows.specs.Records.{IsOfColumns}
use Rattle.mc_values.specs.declared.value.Value.{Value}

-- Rows are a table's: each has a value for each of its columns, NULL or of the column's type.
abbrev pub AreRowsOf : Catalog → TableDecl → List (List Value) → Type 0
AreRowsOf c table rows = All (IsOfColumns c.collations table.columns) rows

-- There is a list of rows for each table of the catalog, in order, and they are that table's.
abbrev pub AreTablesOf : Catalog → List (List (List Value)) → Type 0
AreTablesOf c tables = AllZip (AreRowsOf c) c.tables tables

-- There is a list of indexes for each table of the catalog: one for each that the table declares.
abbrev pub HaveIndexes : Catalog → List (List SeenIndex) → Type 0
HaveIndexes c indexes = AllZip (λ table held. length held ≡ length table.indexes) c.tables indexes
