-- The rows of a catalog's tables, by their files: RFC 4180, and this engine's own fields.
use Rattle.std.specs.Prelude.{ℕ, List, Option, Result, map, codes}
use Rattle.std.specs.Result.{result_map_both}
use Rattle.mc_base.specs.FileOutcome.{file_outcome, file_refusal}
use Rattle.mc_base.specs.Results.{result_and_then}
use Rattle.mc_base.specs.declared.refusal.FileRefusal.{FileRefusal}
use Rattle.mc_book.specs.BookOutcome.{all_or_first}
use Rattle.mc_catalog.specs.declared.catalog.Catalog.{Catalog}
use Rattle.mc_catalog.specs.declared.catalog.TableDecl.{TableDecl}
use Rattle.mc_rows.specs.Outcome.{rows_outcome}
use Rattle.mc_rows.specs.declared.fault.RowsFault.{RowsFault}
use Rattle.mc_rows.specs.declared.fault.RowsFaultKind.{RowsFaultKind}
use Rattle.mc_rows.specs.declared.fault.RowsFaultKind.TheVariants.{NotUtf8, TooManyRows}
use Rattle.mc_rows.specs.declared.fault.RowsFaultKind.TheVariants.{WrongCount, BadInt, BadHex}
use Rattle.mc_rows.specs.declared.fault.RowsFaultKind.TheVariants.{Unfit, TooLong, NoMemory}
use Rattle.mycoll.specs.World.{Rows}

-- The name of the fault of a file of rows.
abbrev pub rows_fault_name : RowsFaultKind → List ℕ
rows_fault_name NotUtf8 = codes "NotUtf8"
rows_fault_name TooManyRows = codes "TooManyRows"
rows_fault_name WrongCount = codes "WrongCount"
rows_fault_name BadInt = codes "BadInt"
rows_fault_name BadHex = codes "BadHex"
rows_fault_name Unfit = codes "Unfit"
rows_fault_name TooLong = codes "TooLong"
rows_fault_name NoMemory = codes "NoMemory"

-- The refusal of a file of rows, by its fault.
abbrev pub rows_refusal : List ℕ → RowsFault → FileRefusal
rows_refusal name fault = file_refusal name (rows_fault_name fault.kind) fault.at

-- The rows that a text says for a table, or the refusal of its file.
unfoldable pub text_rows : Catalog → TableDecl → List ℕ → Result Rows FileRefusal
text_rows catalog table text =
    result_map_both (λ rows. rows) (rows_refusal table.file)
    (rows_outcome catalog.collations table.columns text)

-- The rows of a table, or the refusal of its file.
unfoldable pub table_rows : (List ℕ → Option (List ℕ)) → Catalog → TableDecl
    → Result Rows FileRefusal
table_rows files catalog table =
    result_and_then (text_rows catalog table) (file_outcome files table.file)

-- The rows of all tables, or the first refusal of their files, in the order of the catalog.
unfoldable pub tables_outcome : (List ℕ → Option (List ℕ)) → Catalog
    → Result (List Rows) FileRefusal
tables_outcome files catalog = all_or_first (map (table_rows files catalog) catalog.tables)
