-- What an expression is typed in: the columns of its statement's table, and the connection.
use Rattle.std.specs.Prelude.{◌<◌, List, [], Option, IfSome, length, slice_get}
use Rattle.std.specs.Prelude.{option_map, unwrap_or}
use Rattle.std.specs.Option.{option_and_then}
use Rattle.mc_charset.specs.declared.charset.Charset.{Charset}
use Rattle.mc_catalog.specs.declared.catalog.Catalog.{Catalog}
use Rattle.mc_catalog.specs.declared.catalog.ColumnDecl.{ColumnDecl}
use Rattle.mc_catalog.specs.declared.catalog.TableDecl.{TableDecl}
use Rattle.mc_catalog.specs.Lawful.{IsLawful}
use Rattle.mc_catalog.specs.LookUp.{collation_set}
use Rattle.mc_typing.specs.declared.scope.Scope.{Scope}

-- The statement's table.
abbrev pub table_of : Catalog → Scope → Option TableDecl
table_of c s = option_and_then (λ place. slice_get c.tables place) s.table

-- The columns that names may stand for.
abbrev pub columns_of : Catalog → Scope → List ColumnDecl
columns_of c s = unwrap_or (option_map (λ table. table.columns) (table_of c s)) []

-- The set of the connection.
abbrev pub connection_set : Catalog → Scope → Charset
connection_set c s = collation_set c.collations s.connection.0

-- The table and the collation of the connection are the catalog's.
pub record IsScope (c : Catalog) (s : Scope) : Type 0 where
  pub lawful : IsLawful c
  pub table : IfSome s.table (λ place. place < length c.tables)
  pub connection : s.connection.0 < length c.collations
