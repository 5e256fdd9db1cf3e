-- The faults of a catalog's lines, each beside the lines before it.
use Rattle.std.specs.Prelude.{◌≡◌, ⊤, ℕ, ◌==◌, ◌||◌, nat_le, nat_lt, Bool, true, false, not, List}
use Rattle.std.specs.Prelude.{[], ◌∷◌, length, Option, None, Some, option_map, position, slice_get}
use Rattle.std.specs.List.{find, list_any}
use Rattle.std.specs.Option.{is_some, is_none, option_and_then}
use Rattle.std.specs.Str.{bytes_eq}
use Rattle.mc_base.specs.FirstFault.{HasNoFault, IsFirstFault}
use Rattle.mc_charset.specs.declared.charset.Charset.{Charset}
use Rattle.mc_charset.specs.declared.collation_id.CollId.{CollId}
use Rattle.mc_catalog.specs.declared.catalog.Kind.{Kind}
use Rattle.mc_catalog.specs.declared.catalog.CollDecl.{CollDecl}
use Rattle.mc_catalog.specs.declared.catalog.ColumnDecl.{ColumnDecl}
use Rattle.mc_catalog.specs.declared.catalog.TableDecl.{TableDecl}
use Rattle.mc_catalog.specs.declared.entry.ColumnForm.{ColumnForm}
use Rattle.mc_catalog.specs.declared.entry.Entry.{Entry}
use Rattle.mc_catalog.specs.declared.entry.Entry.TheVariants.{Collation, Connection, Table, Column}
use Rattle.mc_catalog.specs.declared.entry.Entry.TheVariants.{Index}
use Rattle.mc_catalog.specs.declared.fault.CatalogFault.{CatalogFault}
use Rattle.mc_catalog.specs.declared.fault.CatalogFaultKind.{CatalogFaultKind}
use Rattle.mc_catalog.specs.declared.fault.CatalogFaultKind.TheVariants.{BadLine, UnknownCharset}
use Rattle.mc_catalog.specs.declared.fault.CatalogFaultKind.TheVariants.{UnknownKind, WrongCharset}
use Rattle.mc_catalog.specs.declared.fault.CatalogFaultKind.TheVariants.{UnknownCollation}
use Rattle.mc_catalog.specs.declared.fault.CatalogFaultKind.TheVariants.{UnknownColumn, BadLength}
use Rattle.mc_catalog.specs.declared.fault.CatalogFaultKind.TheVariants.{Repeated, TooMany}
use Rattle.mc_catalog.specs.declared.fault.CatalogFaultKind.TheVariants.{NoColumn, NoMemory}
use Rattle.mc_catalog.specs.Lawful.{suits}
use Rattle.mc_catalog.specs.Limits.{most_collations, most_columns, most_indexes, most_tables}
use Rattle.mc_catalog.specs.LookUp.{number_of}
use Rattle.mc_catalog.specs.Entries.{entry_of}
use Rattle.mc_catalog.specs.Progress.{Progress, tables_of, type_of, column_named, width_at}
use Rattle.mc_catalog.specs.Progress.{indexed_column, said_by}

-- Faults in the order in which they are looked for, each with whether it is there.
abbrev pub Tests : Type 0
Tests = List (CatalogFaultKind × Bool)

-- The first fault that is there.
abbrev pub first_of : Tests → Option CatalogFaultKind
first_of tests = option_map (λ test. test.0) (find (λ test. test.1) tests)

-- Whether a kind and a set are known and the one doesn't suit the other.
abbrev pub is_wrong_set : Option Kind → Option Charset → Bool
is_wrong_set (Some kind) (Some set) = not (suits kind set)
is_wrong_set _ _ = false

-- The tests of a collation: at most 64 are declared beside the nine built-in ones.
abbrev pub collation_tests : List CollDecl → List ℕ → Option Charset → Option Kind → Tests
collation_tests collations name set kind =
    (UnknownCharset, is_none set) ∷ (UnknownKind, is_none kind)
    ∷ (WrongCharset, is_wrong_set kind set)
    ∷ (Repeated, list_any (λ other. bytes_eq other.name name) collations)
    ∷ (TooMany, nat_le most_collations (length collations)) ∷ []

-- The tests of a connection line: there is at most one.
abbrev pub connection_tests : List CollDecl → List ℕ → Option CollId → Tests
connection_tests collations name connection =
    (UnknownCollation, is_none (number_of collations name)) ∷ (Repeated, is_some connection) ∷ []

-- The tests of a table: there are at most 16.
abbrev pub table_tests : List TableDecl → List ℕ → Tests
table_tests tables name =
    (Repeated, list_any (λ table. bytes_eq table.name name) tables)
    ∷ (TooMany, nat_le most_tables (length tables)) ∷ []

-- The tests of a column: a table has at most 32.
abbrev pub column_tests : List CollDecl → List ℕ → ColumnForm → TableDecl → Tests
column_tests collations name form table =
    (UnknownCollation, is_none (type_of collations form))
    ∷ (Repeated, list_any (λ column. bytes_eq column.name name) table.columns)
    ∷ (TooMany, nat_le most_columns (length table.columns)) ∷ []

-- The greatest length of the values of the column of this name.
unfoldable pub indexed_width : List ColumnDecl → List ℕ → Option ℕ
indexed_width columns name = option_and_then (width_at columns) (column_named columns name)

-- Whether the front that an index covers is empty, or longer than the values can be.
unfoldable pub is_bad_length : Option ℕ → Option ℕ → Bool
is_bad_length (Some k) (Some width) = k == 0 || nat_lt width k
is_bad_length _ _ = false

-- The tests of an index: a table has at most 8.
abbrev pub index_tests : List ℕ → List ℕ → Option ℕ → TableDecl → Tests
index_tests name column prefix table =
    (UnknownColumn, is_none (indexed_column table.columns column))
    ∷ (BadLength, is_bad_length prefix (indexed_width table.columns column))
    ∷ (Repeated, list_any (λ index. bytes_eq index.name name) table.indexes)
    ∷ (TooMany, nat_le most_indexes (length table.indexes)) ∷ []

-- The tests of a part of the last table, which there must be.
abbrev pub tests_in : (TableDecl → Tests) → Option TableDecl → Tests
tests_in tests None = (BadLine, true) ∷ []
tests_in tests (Some table) = tests table

-- The tests of an entry behind some lines.
abbrev pub tests_of : Progress → Entry → Tests
tests_of so_far (Collation name set kind file rules) =
    collation_tests so_far.collations name set kind
tests_of so_far (Connection name) = connection_tests so_far.collations name so_far.connection
tests_of so_far (Table name file) = table_tests (tables_of so_far) name
tests_of so_far (Column name form) = tests_in (column_tests so_far.collations name form) so_far.last
tests_of so_far (Index name column prefix) = tests_in (index_tests name column prefix) so_far.last

-- The first fault of what a line says, if it has one, behind some lines.
abbrev pub kind_of_fault : Progress → Option Entry → Option CatalogFaultKind
kind_of_fault so_far None = Some BadLine
kind_of_fault so_far (Some entry) = first_of (tests_of so_far entry)

-- The fault of a line behind these, if it has one.
abbrev pub fault_of : List (ℕ × List ℕ) → ℕ × List ℕ → Option CatalogFault
fault_of before line =
    option_map (λ kind. record { kind = kind; line = line.0 })
    (kind_of_fault (said_by before) (entry_of line.1))

-- The place of the first table that has no column.
abbrev pub bare_place : List TableDecl → Option ℕ
bare_place tables = position (λ table. length table.columns == 0) tables

-- The first table without a column begins at the line of this number.
abbrev pub IsBareLine : Progress → ℕ → Type 0
IsBareLine said number =
    (place : ℕ) × (bare_place (tables_of said) ≡ Some place)
    × (slice_get said.table_lines place ≡ Some number)

-- Some lines are those of a catalog: none has a fault, and each table has a column.
abbrev pub IsAccepted : List (ℕ × List ℕ) → Type 0
IsAccepted lines = HasNoFault fault_of lines × (bare_place (tables_of (said_by lines)) ≡ None)

-- Some lines are refused so: with the first fault of a line, or, where no line has one, at the
-- first table without a column. Want of memory has no cause in the lines, and no line.
abbrev pub IsRefused : List (ℕ × List ℕ) → CatalogFaultKind → ℕ → Type 0
IsRefused lines NoMemory number = number ≡ 0
IsRefused lines NoColumn number = HasNoFault fault_of lines × IsBareLine (said_by lines) number
IsRefused lines kind number = IsFirstFault fault_of lines (record { kind = kind; line = number })

-- A line's fault is this one. Want of memory has no cause in a line, and a line is no table without
-- a column.
abbrev pub IsCausedBy : CatalogFaultKind → Option CatalogFaultKind → Type 0
IsCausedBy NoMemory fault = ⊤
IsCausedBy NoColumn fault = ⊥
IsCausedBy kind fault = fault ≡ Some kind

-- A fault that only the end of the lines tells; want of memory has no line.
abbrev pub IsEndFault : Progress → CatalogFaultKind → ℕ → Type 0
IsEndFault said NoMemory number = number ≡ 0
IsEndFault said NoColumn number = IsBareLine said number
IsEndFault said _ number = ⊥

-- The line that a fault tells: none where memory ran out.
abbrev pub line_told : CatalogFaultKind → ℕ → ℕ
line_told NoMemory number = 0
line_told _ number = number
