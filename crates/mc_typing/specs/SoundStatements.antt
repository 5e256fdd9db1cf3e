-- Sound typed statements, which are those that typing gives.
use Rattle.std.specs.Prelude.{◌≡◌, ℕ, ◌<◌, false, List, [], ◌++◌, Option}
use Rattle.std.specs.Prelude.{All, IfSome, length, map, option_map, slice_get, unwrap_or}
use Rattle.std.specs.List.{flat_map, range_with_len}
use Rattle.std.specs.Option.{option_and_then}
use Rattle.mc_catalog.specs.declared.catalog.Catalog.{Catalog}
use Rattle.mc_catalog.specs.declared.catalog.ColumnDecl.{ColumnDecl}
use Rattle.mc_typing.specs.declared.typed.Ty.{Ty}
use Rattle.mc_typing.specs.declared.typed.Typed.{Typed}
use Rattle.mc_typing.specs.AggregatePlaces.{aggregate_places}
use Rattle.mc_typing.specs.AggregateTypes.{aggregate_types}
use Rattle.mc_typing.specs.Columns.{column_ty}
use Rattle.mc_typing.specs.OfType.{IsNumeric}
use Rattle.mc_typing.specs.Sound.{IsSound}

-- The columns of the table at a place, if there is one.
abbrev pub columns_at : Catalog → Option ℕ → List ColumnDecl
columns_at c place = unwrap_or (option_map (λ table. table.columns)
    (option_and_then (λ p. slice_get c.tables p) place)) []

-- The types of these columns, which are those of a row's values.
abbrev pub row_types : Catalog → Option ℕ → List Ty
row_types c place = map (λ column. column_ty c column.ty) (columns_at c place)

-- The types of the aggregates of a statement: those of its items, then those of its orders.
abbrev pub statement_aggregates : Typed → List Ty
statement_aggregates t = flat_map aggregate_types t.items
    ++ flat_map (λ order. aggregate_types order.expr) t.orders

-- The places of the aggregates of a statement: those of its items, then those of its orders.
abbrev pub statement_places : Typed → List ℕ
statement_places t = flat_map aggregate_places t.items
    ++ flat_map (λ order. aggregate_places order.expr) t.orders

-- The statement's expressions are sound over its table's columns, and its conjuncts are truth
-- values. Aggregates stand in its items and orders alone, at places counted from 0 in their order;
-- without groups there are none.
pub record IsSoundStatement (c : Catalog) (t : Typed) : Type 0 where
  pub table : IfSome t.table (λ place. place < length c.tables)
  pub header : length t.header ≡ length t.items
  pub items : All (IsSound c (row_types c t.table) (statement_aggregates t)) t.items
  pub conjuncts : All (IsSound c (row_types c t.table) []) t.conjuncts
  pub truths : All (λ x. IsNumeric x.ty) t.conjuncts
  pub groups : All (IsSound c (row_types c t.table) []) t.groups
  pub orders : All (λ order. IsSound c (row_types c t.table) (statement_aggregates t) order.expr)
      t.orders
  pub places : statement_places t ≡ range_with_len 0 (length (statement_aggregates t))
  pub ungrouped : t.grouped ≡ false → (t.groups ≡ []) × (statement_aggregates t ≡ [])
