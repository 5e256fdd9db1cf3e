-- What every catalog keeps to: the names, numbers, lengths and limits of its parts.
use Rattle.std.specs.Prelude.{◌≡◌, ◌≢◌, ◌<◌, ◌≤◌, ⊤, ℕ, Bool, true, false, IsTrue, List, length}
use Rattle.std.specs.Prelude.{take, drop, Option, None, Some, All, AllPairs, IfSome, IsSomeAnd, map}
use Rattle.std.specs.Prelude.{slice_get}
use Rattle.std.specs.Char.{is_ascii}
use Rattle.std.specs.List.{list_all}
use Rattle.mc_charset.specs.Names.{is_unicode_set}
use Rattle.mc_charset.specs.declared.charset.Charset.{Charset}
use Rattle.mc_charset.specs.declared.charset.Charset.TheVariants.{Latin1, Ascii, Utf8mb4}
use Rattle.mc_catalog.specs.declared.catalog.Kind.{Kind}
use Rattle.mc_catalog.specs.declared.catalog.Kind.TheVariants.{Bin, Table8, General, Uca400, Uca520}
use Rattle.mc_catalog.specs.declared.catalog.Kind.TheVariants.{Uca900AiCi, Uca900AsCi, Uca900AsCs}
use Rattle.mc_catalog.specs.declared.catalog.ColumnType.{ColumnType}
use Rattle.mc_catalog.specs.declared.catalog.ColumnType.TheVariants.{BigInt, Char, VarChar, Binary}
use Rattle.mc_catalog.specs.declared.catalog.ColumnType.TheVariants.{VarBinary}
use Rattle.mc_catalog.specs.declared.catalog.CollDecl.{CollDecl}
use Rattle.mc_catalog.specs.declared.catalog.ColumnDecl.{ColumnDecl}
use Rattle.mc_catalog.specs.declared.catalog.IndexDecl.{IndexDecl}
use Rattle.mc_catalog.specs.declared.catalog.TableDecl.{TableDecl}
use Rattle.mc_catalog.specs.declared.catalog.Catalog.{Catalog}
use Rattle.mc_catalog.specs.Limits.{built_in_count, longest_char, longest_varchar, most_collations}
use Rattle.mc_catalog.specs.Limits.{longest_name, most_columns, most_indexes, most_tables}
use Rattle.mc_catalog.specs.BuiltIn.{built_in_collations}

-- Whether a set has one byte for each character of a text: latin1 and ascii.
abbrev pub is_single_byte : Charset → Bool
is_single_byte Latin1 = true
is_single_byte Ascii = true
is_single_byte _ = false

-- Whether a set is utf8mb4.
abbrev pub is_utf8mb4 : Charset → Bool
is_utf8mb4 Utf8mb4 = true
is_utf8mb4 _ = false

-- Whether a collation of a set may be declared with this kind.
abbrev pub suits : Kind → Charset → Bool
suits Bin set = false
suits Table8 set = is_single_byte set
suits General set = is_unicode_set set
suits Uca400 set = is_unicode_set set
suits Uca520 set = is_unicode_set set
suits Uca900AiCi set = is_utf8mb4 set
suits Uca900AsCi set = is_utf8mb4 set
suits Uca900AsCs set = is_utf8mb4 set

-- Whether a kind can be tailored: those of the Unicode Collation Algorithm.
abbrev pub takes_rules : Kind → Bool
takes_rules Bin = false
takes_rules Table8 = false
takes_rules General = false
takes_rules _ = true

-- A name is a word of ASCII, of at most 64 bytes.
abbrev pub IsLawfulName : List ℕ → Type 0
IsLawfulName name = (length name ≤ longest_name) × IsTrue (list_all is_ascii name)

-- A declared collation has a kind that suits its set, and rules only where the kind takes them.
abbrev pub IsLawfulCollation : CollDecl → Type 0
IsLawfulCollation declared =
    IsTrue (suits declared.kind declared.charset) × IfSome declared.rules
    (λ _. IsTrue (takes_rules declared.kind))

-- A column's type has a length within the limits and a collation of the catalog, which has so many.
abbrev pub IsLawfulType : ℕ → ColumnType → Type 0
IsLawfulType collations BigInt = ⊤
IsLawfulType collations (Char n coll) = (1 ≤ n) × (n ≤ longest_char) × (coll.0 < collations)
IsLawfulType collations (VarChar n coll) = (1 ≤ n) × (n ≤ longest_varchar) × (coll.0 < collations)
IsLawfulType collations (Binary n) = (1 ≤ n) × (n ≤ longest_char)
IsLawfulType collations (VarBinary n) = (1 ≤ n) × (n ≤ longest_varchar)

-- The greatest length of a column's values, in characters, or bytes of a binary one.
abbrev pub width_of : ColumnType → Option ℕ
width_of BigInt = None
width_of (Char n coll) = Some n
width_of (VarChar n coll) = Some n
width_of (Binary n) = Some n
width_of (VarBinary n) = Some n

-- An index covers a column that has a length, or a part of it that is no longer.
abbrev pub IsLawfulIndex : List ColumnDecl → IndexDecl → Type 0
IsLawfulIndex columns index = IsSomeAnd (slice_get columns index.column)
    (λ column. IsSomeAnd (width_of column.ty) (λ n. IfSome index.prefix (λ k. (1 ≤ k) × (k ≤ n))))

-- The names of a list differ.
abbrev pub AreApart : List (List ℕ) → Type 0
AreApart names = AllPairs (λ a b. a ≢ b) names

-- A table's parts are lawful and within the limits, and the names of its columns and indexes
-- differ.
pub record IsLawfulTable (collations : ℕ) (table : TableDecl) : Type 0 where
  pub few_columns : length table.columns ≤ most_columns
  pub few_indexes : length table.indexes ≤ most_indexes
  pub types : All (λ column. IsLawfulType collations column.ty) table.columns
  pub indexes : All (IsLawfulIndex table.columns) table.indexes
  pub column_names : AreApart (map (λ column. column.name) table.columns)
  pub index_names : AreApart (map (λ index. index.name) table.indexes)
  pub lawful_names : All (λ index. IsLawfulName index.name) table.indexes

-- A catalog begins with the built-in collations, and its parts are lawful and within the limits. So
-- far it may have tables whose columns are to come.
pub record IsLawfulSoFar (catalog : Catalog) : Type 0 where
  pub built_in : take built_in_count catalog.collations ≡ built_in_collations
  pub few_collations : length catalog.collations ≤ most_collations
  pub declared : All IsLawfulCollation (drop built_in_count catalog.collations)
  pub collation_names : AreApart (map (λ declared. declared.name) catalog.collations)
  pub lawful_names : All (λ declared. IsLawfulName declared.name) catalog.collations
  pub few_tables : length catalog.tables ≤ most_tables
  pub tables : All (IsLawfulTable (length catalog.collations)) catalog.tables
  pub table_names : AreApart (map (λ table. table.name) catalog.tables)
  pub connection : catalog.connection.0 < length catalog.collations

-- A catalog keeps to all this, and each of its tables has a column.
pub record IsLawful (catalog : Catalog) : Type 0 where
  pub so_far : IsLawfulSoFar catalog
  pub some_columns : All (λ table. 1 ≤ length table.columns) catalog.tables
