-- The records of a file of rows: RFC 4180 as the `csv` crate reads it. Each is a row, or has a
-- first fault.
use Rattle.std.specs.Prelude.{ℕ, ◌+◌, ◌==◌, List, [], ◌∷◌, length, nat_le, Option, Some}
use Rattle.std.specs.Prelude.{Result, Ok, Err, option_map, if◌then◌else◌}
use Rattle.std.specs.List.{AllZip}
use Rattle.std.specs.Result.{result_err, result_unwrap_or}
use Rattle.csv.specs.Reading.{default_config, records, strip_bom}
use Rattle.mc_base.specs.Results.{result_and_then}
use Rattle.mc_catalog.specs.declared.catalog.CollDecl.{CollDecl}
use Rattle.mc_catalog.specs.declared.catalog.ColumnDecl.{ColumnDecl}
use Rattle.mc_values.specs.declared.value.Value.{Value}
use Rattle.mc_rows.specs.declared.fault.RowsFault.{RowsFault}
use Rattle.mc_rows.specs.declared.fault.RowsFaultKind.{RowsFaultKind}
use Rattle.mc_rows.specs.declared.fault.RowsFaultKind.TheVariants.{TooManyRows, WrongCount}
use Rattle.mc_rows.specs.Fields.{field_value, IsOfType}

-- a record: its fields
abbrev pub Record : Type 0
Record = List (List ℕ)

-- the records of a file, behind a byte order mark, if it begins with one
abbrev pub records_of : List ℕ → List Record
records_of text = records default_config (strip_bom text)

-- how many rows a table has at most: this engine's own limit
abbrev pub most_rows : ℕ
most_rows = 200000

-- a value in front of others, if there are any
abbrev pub with_first : Value → Result (List Value) RowsFaultKind
    → Result (List Value) RowsFaultKind
with_first value values = result_and_then (λ others. Ok (value ∷ others)) values

-- the values of fields, each by its column, or the first fault of one; each field has its column
-- and each column its field
unfoldable pub values_of : List CollDecl → List ColumnDecl → Record
    → Result (List Value) RowsFaultKind
values_of collations [] [] = Ok []
values_of collations (column ∷ columns) (field ∷ fields) =
    result_and_then (λ value. with_first value (values_of collations columns fields))
    (field_value collations column.ty field)
values_of collations columns fields = Err WrongCount

-- a record as a row, or its fault: a wrong number of fields comes before the faults of fields
abbrev pub row_of : List CollDecl → List ColumnDecl → Record → Result (List Value) RowsFaultKind
row_of collations columns fields =
    if length fields == length columns then values_of collations columns fields else Err WrongCount

-- the fault of a record with so many before it, if it has one: that there are too many comes first
abbrev pub kind_of_fault : List CollDecl → List ColumnDecl → ℕ → Record → Option RowsFaultKind
kind_of_fault collations columns count fields =
    if nat_le most_rows count then Some TooManyRows
    else result_err (row_of collations columns fields)

-- the fault of a record behind these, with its number from 1
abbrev pub fault_of : List CollDecl → List ColumnDecl → List Record → Record → Option RowsFault
fault_of collations columns before fields =
    option_map (λ kind. record { kind = kind; at = length before + 1 })
    (kind_of_fault collations columns (length before) fields)

-- the row of a record that has no fault
abbrev pub row_in : List CollDecl → List ColumnDecl → Record → List Value
row_in collations columns fields = result_unwrap_or (row_of collations columns fields) []

-- A row has a value for each column, NULL or of the column's type.
abbrev pub IsOfColumns : List CollDecl → List ColumnDecl → List Value → Type 0
IsOfColumns collations columns row =
    AllZip (λ column value. IsOfType collations column.ty value) columns row
