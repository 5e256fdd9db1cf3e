-- Names as columns: MySQL 8.0 manual, 9.2.
use Rattle.std.specs.Prelude.{ℕ, List, Option, Some, None, Bool, false, Result, Ok, Err, position}
use Rattle.std.specs.Prelude.{option_map, slice_get, if◌then◌else◌}
use Rattle.std.specs.Option.{option_map_or}
use Rattle.std.specs.Str.{bytes_eq}
use Rattle.mc_base.specs.declared.refusal.Refusal.{Refusal}
use Rattle.mc_charset.specs.declared.charset.Charset.TheVariants.{Binary as SetBinary}
use Rattle.mc_charset.specs.declared.collation_id.CollId.{CollId}
use Rattle.mc_convert.specs.Classes.{cap_of}
use Rattle.mc_coerce.specs.Levels.{implicit}
use Rattle.mc_catalog.specs.LookUp.{collation_set}
use Rattle.mc_catalog.specs.declared.catalog.Catalog.{Catalog}
use Rattle.mc_catalog.specs.declared.catalog.ColumnDecl.{ColumnDecl}
use Rattle.mc_catalog.specs.declared.catalog.ColumnType.{ColumnType}
use Rattle.mc_catalog.specs.declared.catalog.ColumnType.TheVariants.{BigInt, Char, VarChar, Binary}
use Rattle.mc_catalog.specs.declared.catalog.ColumnType.TheVariants.{VarBinary}
use Rattle.mc_typing.specs.declared.scope.Scope.{Scope}
use Rattle.mc_typing.specs.declared.typed.Node.TheVariants.{Column}
use Rattle.mc_typing.specs.declared.typed.Ty.{Ty}
use Rattle.mc_typing.specs.declared.typed.Ty.TheVariants.{Int, Str}
use Rattle.mc_typing.specs.declared.typed.TypedExpr.{TypedExpr}
use Rattle.mc_typing.specs.Messages.{no_column}
use Rattle.mc_typing.specs.Operands.{of_collation}
use Rattle.mc_typing.specs.Scope.{columns_of, table_of}

-- The type of a text column.
abbrev pub text_column : Catalog → CollId → Ty
text_column c id = Str (of_collation (collation_set c.collations id.0) id implicit
    (cap_of (collation_set c.collations id.0)))

-- The type of a column.
abbrev pub column_ty : Catalog → ColumnType → Ty
column_ty c BigInt = Int
column_ty c (Char n coll) = text_column c coll
column_ty c (VarChar n coll) = text_column c coll
column_ty c (Binary n) =
    Str (of_collation SetBinary (record { 0 = 0 }) implicit (cap_of SetBinary))
column_ty c (VarBinary n) =
    Str (of_collation SetBinary (record { 0 = 0 }) implicit (cap_of SetBinary))

-- The column at a place.
abbrev pub column_at : Catalog → ℕ → ColumnDecl → TypedExpr
column_at c place column = record { node = Column place; ty = column_ty c column.ty }

-- The place of the column of a name.
abbrev pub place_of : List ColumnDecl → List ℕ → Option ℕ
place_of columns name = position (λ column. bytes_eq column.name name) columns

-- The column at the place that was found.
abbrev pub found_column : Catalog → List ColumnDecl → ℕ → Option TypedExpr
found_column c columns place = option_map (column_at c place) (slice_get columns place)

-- The column of a name.
abbrev pub column_named : Catalog → List ColumnDecl → List ℕ → Result TypedExpr Refusal
column_named c columns name = elim (place_of columns name) [
  | None ↦ Err (no_column name)
  | Some place ↦ option_map_or (λ x. Ok x) (found_column c columns place) (Err (no_column name))
]

-- The statement's table has this name.
abbrev pub is_table : Catalog → Scope → List ℕ → Bool
is_table c s name = option_map_or (λ table. bytes_eq table.name name) (table_of c s) false

-- The column of a name, and that of a name with its table.
abbrev pub column : Catalog → Scope → List ℕ → Result TypedExpr Refusal
column c s name = column_named c (columns_of c s) name

abbrev pub column_of_table : Catalog → Scope → List ℕ → List ℕ → Result TypedExpr Refusal
column_of_table c s table name = if is_table c s table then column c s name else Err (no_column name)
