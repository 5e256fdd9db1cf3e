-- What the lines of a catalog say together: each entry adds its part to what those before it say.
use Rattle.std.specs.Prelude.{◌≡◌, ◌≤◌, ◌+◌, ℕ, false, IfSome, length, List, [], ◌∷◌, ◌++◌, fold}
use Rattle.std.specs.Prelude.{Option, None, Some, option_map, position, slice_get, unwrap_or}
use Rattle.std.specs.Prelude.{if◌then◌else◌}
use Rattle.std.specs.List.{list_any}
use Rattle.std.specs.Option.{is_some, option_and_then, option_to_list}
use Rattle.std.specs.Str.{bytes_eq}
use Rattle.mc_charset.specs.declared.charset.Charset.{Charset}
use Rattle.mc_charset.specs.declared.collation_id.CollId.{CollId}
use Rattle.mc_catalog.specs.declared.catalog.Kind.{Kind}
use Rattle.mc_catalog.specs.declared.catalog.CollDecl.{CollDecl}
use Rattle.mc_catalog.specs.declared.catalog.ColumnType.{ColumnType}
use Rattle.mc_catalog.specs.declared.catalog.ColumnType.TheVariants.{Char as TypeChar}
use Rattle.mc_catalog.specs.declared.catalog.ColumnType.TheVariants.{VarChar as TypeVarChar}
use Rattle.mc_catalog.specs.declared.catalog.ColumnDecl.{ColumnDecl}
use Rattle.mc_catalog.specs.declared.catalog.TableDecl.{TableDecl}
use Rattle.mc_catalog.specs.declared.catalog.Catalog.{Catalog}
use Rattle.mc_catalog.specs.declared.entry.ColumnForm.{ColumnForm}
use Rattle.mc_catalog.specs.declared.entry.ColumnForm.TheVariants.{Plain, Char, VarChar}
use Rattle.mc_catalog.specs.declared.entry.Entry.{Entry}
use Rattle.mc_catalog.specs.declared.entry.Entry.TheVariants.{Collation, Connection, Table, Column}
use Rattle.mc_catalog.specs.declared.entry.Entry.TheVariants.{Index}
use Rattle.mc_catalog.specs.BuiltIn.{built_in_collations, utf8mb4_bin}
use Rattle.mc_catalog.specs.Lawful.{width_of}
use Rattle.mc_catalog.specs.LookUp.{number_of}
use Rattle.mc_catalog.specs.Entries.{entry_of}

-- What some first lines say: the collations, the tables before the last one and the last one, the
-- connection collation if a line names it, and the numbers of the lines that begin the tables.
pub record Progress : Type 0 where
  pub collations : List CollDecl
  pub earlier : List TableDecl
  pub last : Option TableDecl
  pub connection : Option CollId
  pub table_lines : List ℕ

-- What no lines say.
abbrev pub nothing_said : Progress
nothing_said = record {
  collations = built_in_collations;
  earlier = [];
  last = None;
  connection = None;
  table_lines = [];
}

-- The tables, in order.
abbrev pub tables_of : Progress → List TableDecl
tables_of so_far = so_far.earlier ++ option_to_list so_far.last

-- The collation that a line declares, where its set and its kind are known.
unfoldable pub declared_of : List ℕ → Option Charset → Option Kind → List ℕ → Option (List ℕ)
    → Option CollDecl
declared_of name (Some set) (Some kind) file rules =
    Some (record { name = name; charset = set; kind = kind; file = file; rules = rules })
declared_of name set kind file rules = None

-- The number of a collation, as such.
abbrev pub id_of : List CollDecl → List ℕ → Option CollId
id_of collations name = option_map (λ number. record { 0 = number }) (number_of collations name)

-- The type of a column, where the collation that its line names is known.
unfoldable pub type_of : List CollDecl → ColumnForm → Option ColumnType
type_of collations (Plain type) = Some type
type_of collations (Char n collation) = option_map (TypeChar n) (id_of collations collation)
type_of collations (VarChar n collation) = option_map (TypeVarChar n) (id_of collations collation)

-- A table with one more column.
unfoldable pub with_column : List CollDecl → List ℕ → ColumnForm → TableDecl → Option TableDecl
with_column collations name form table =
    option_map
    (λ type. record table { columns = table.columns ++ record { name = name; ty = type } ∷ [] })
    (type_of collations form)

-- The place of the column of this name.
abbrev pub column_named : List ColumnDecl → List ℕ → Option ℕ
column_named columns name = position (λ column. bytes_eq column.name name) columns

-- The greatest length of the values of the column at a place.
unfoldable pub width_at : List ColumnDecl → ℕ → Option ℕ
width_at columns place = option_and_then (λ column. width_of column.ty) (slice_get columns place)

-- The place of the column of this name, if it has a length.
unfoldable pub indexed_column : List ColumnDecl → List ℕ → Option ℕ
indexed_column columns name =
    option_and_then (λ place. if is_some (width_at columns place) then Some place else None)
    (column_named columns name)

-- A table with one more index.
unfoldable pub with_index : List ℕ → List ℕ → Option ℕ → TableDecl → Option TableDecl
with_index name column prefix table =
    option_map (λ place. record table {
      indexes = table.indexes ++ record { name = name; column = place; prefix = prefix } ∷ [];
    })
    (indexed_column table.columns column)

-- What some lines and the entry of the line of this number say.
unfoldable pub with_entry : ℕ → Progress → Entry → Progress
with_entry number so_far (Collation name set kind file rules) =
    record so_far {
      collations = so_far.collations ++ option_to_list (declared_of name set kind file rules);
    }
with_entry number so_far (Connection name) =
    record so_far { connection = id_of so_far.collations name }
with_entry number so_far (Table name file) =
    record so_far {
      earlier = tables_of so_far;
      last = Some (record { name = name; file = file; columns = []; indexes = [] });
      table_lines = so_far.table_lines ++ number ∷ [];
    }
with_entry number so_far (Column name form) =
    record so_far { last = option_and_then (with_column so_far.collations name form) so_far.last }
with_entry number so_far (Index name column prefix) =
    record so_far { last = option_and_then (with_index name column prefix) so_far.last }

-- What some lines and one more say; a line without an entry adds nothing.
unfoldable pub with_line : Progress → ℕ × List ℕ → Progress
with_line so_far line = added (entry_of line.1)
  where
    added : Option Entry → Progress
    added None = so_far
    added (Some entry) = with_entry line.0 so_far entry

-- What lines say, each with its number.
abbrev pub said_by : List (ℕ × List ℕ) → Progress
said_by lines = fold with_line nothing_said lines

-- The catalog of what lines say; the connection collation is utf8mb4_bin where no line names one.
abbrev pub catalog_of : Progress → Catalog
catalog_of so_far = record {
  collations = so_far.collations;
  tables = tables_of so_far;
  connection = unwrap_or so_far.connection utf8mb4_bin;
}

-- Each table has its line, and the last table has a name of its own.
pub record IsInStep (earlier : List TableDecl) (last : Option TableDecl) (table_lines : List ℕ)
    : Type 0 where
  pub lined : length earlier + length (option_to_list last) ≤ length table_lines
  pub apart : IfSome last
      (λ table. list_any (λ other. bytes_eq other.name table.name) earlier ≡ false)
