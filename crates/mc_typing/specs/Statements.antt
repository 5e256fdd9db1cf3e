-- The typed statement of a tree, or its refusal: MySQL 8.0 manual, 13.2.10. Its parts are taken in
-- the order table, items, WHERE, GROUP BY, ORDER BY.
use Rattle.std.specs.Prelude.{ℕ, ◌+◌, ◌-◌, Bool, true, false, not, ◌||◌, List, [], ◌∷◌, ◌++◌}
use Rattle.std.specs.Prelude.{Option, Some, None, Result, Ok, Err, codes, drop, map, option_map}
use Rattle.std.specs.Prelude.{position, take, unwrap_or}
use Rattle.std.specs.Prelude.{if◌then◌else◌}
use Rattle.std.specs.List.{find, flat_map, list_any}
use Rattle.std.specs.Option.{option_and_then, option_map_or}
use Rattle.std.specs.Str.{bytes_eq}
use Rattle.mc_base.specs.Results.{result_and_then}
use Rattle.mc_base.specs.declared.refusal.Refusal.{Refusal}
use Rattle.mc_base.specs.declared.span.Span.{Span}
use Rattle.mc_ast.specs.declared.expr.Expr.{Expr, fold-Expr}
use Rattle.mc_ast.specs.declared.expr.Form.{Form}
use Rattle.mc_ast.specs.declared.expr.Form.TheVariants as form
use Rattle.mc_ast.specs.declared.statement.Item.{Item}
use Rattle.mc_ast.specs.declared.statement.OrderItem.{OrderItem}
use Rattle.mc_ast.specs.declared.statement.Statement.{Statement}
use Rattle.mc_catalog.specs.declared.catalog.Catalog.{Catalog}
use Rattle.mc_catalog.specs.declared.catalog.ColumnDecl.{ColumnDecl}
use Rattle.mc_typing.specs.declared.place.Place.{Place}
use Rattle.mc_typing.specs.declared.place.Place.TheVariants.{Row, Group}
use Rattle.mc_typing.specs.declared.scope.Scope.{Scope}
use Rattle.mc_typing.specs.declared.session.Session.{Session}
use Rattle.mc_typing.specs.declared.typed.Node.{Node, Node-F}
use Rattle.mc_typing.specs.declared.typed.Typed.{Typed}
use Rattle.mc_typing.specs.declared.typed.TypedExpr.{TypedExpr, para-TypedExpr}
use Rattle.mc_typing.specs.declared.typed.TypedOrder.{TypedOrder}
use Rattle.mc_typing.specs.Columns.{column_at}
use Rattle.mc_typing.specs.Aggregates.{aggregate_count, is_aggregate_form, total}
use Rattle.mc_typing.specs.Exprs.{Typing, in_row, operands, plain, typing, typings}
use Rattle.mc_typing.specs.Forms.{parts}
use Rattle.mc_typing.specs.Likeness.{has_name}
use Rattle.mc_typing.specs.Messages.{no_table, not_grouped, wrong_argument}
use Rattle.mc_typing.specs.Operands.{is_text}
use Rattle.mc_typing.specs.Scope.{columns_of}

-- One of these is true.
abbrev pub either : Bool → List Bool → Bool
either true tests = true
either false tests = list_any (λ b. b) tests

-- An aggregate stands in the tree.
unfoldable pub has_aggregate : Expr → Bool
has_aggregate expr =
    fold-Expr Bool Bool (λ form. either (is_aggregate_form form) (parts form)) (λ e. e.form) expr

-- The bytes of a script that a span has.
abbrev pub bytes_at : List ℕ → Span → List ℕ
bytes_at script span = take (span.end - span.start) (drop span.start script)

-- The header of an item.
abbrev pub header_of : List ℕ → Item → List ℕ
header_of script item = unwrap_or item.alias (bytes_at script item.span)

-- The columns that `*` stands for, from a place on.
abbrev pub star_from : Catalog → ℕ → List ColumnDecl → List TypedExpr
star_from c place [] = []
star_from c place (column ∷ columns) = column_at c place column ∷ star_from c (place + 1) columns

-- The columns of `*`, where it is there.
abbrev pub star_columns : Catalog → Scope → Bool → List ColumnDecl
star_columns c s true = columns_of c s
star_columns c s false = []

-- There is no GROUP BY.
abbrev pub has_no_groups : List Expr → Bool
has_no_groups [] = true
has_no_groups (group ∷ groups) = false

-- The statement's rows are grouped: by GROUP BY, or into one group by an aggregate among its items
-- and orders.
unfoldable pub is_grouped : Statement → Bool
is_grouped statement = not (has_no_groups statement.groups)
    || (list_any (λ item. has_aggregate item.expr) statement.items
    || list_any (λ o. has_aggregate o.expr) statement.orders)

-- Where the items and the orders of a statement stand.
abbrev pub own_place : Statement → Place
own_place statement = if is_grouped statement then Group else Row

-- No GROUP BY expression is the column's name.
abbrev pub is_loose : List Expr → ColumnDecl → Bool
is_loose groups column = not (has_name groups column.name)

-- The first column of `*` that no GROUP BY expression names, where rows are grouped.
abbrev pub loose_column : Place → List Expr → List ColumnDecl → Option ColumnDecl
loose_column Group groups columns = find (is_loose groups) columns
loose_column place groups columns = None

-- The columns of `*`, typed.
abbrev pub star_items : Catalog → Place → List Expr → List ColumnDecl
    → Result (List TypedExpr) Refusal
star_items c place groups columns = elim (loose_column place groups columns) [
  | None ↦ Ok (star_from c 0 columns)
  | Some column ↦ Err (not_grouped column.name)
]

-- Expressions, all typed, or the refusal of the first that is refused.
abbrev pub typed_all : Catalog → Scope → List Expr → Place → List Expr
    → Result (List TypedExpr) Refusal
typed_all c s groups place exprs = operands c s plain (typings c s groups place 0 exprs)

-- Typed expressions behind others.
abbrev pub behind : List TypedExpr → Result (List TypedExpr) Refusal
    → Result (List TypedExpr) Refusal
behind xs others = result_and_then (λ ys. Ok (xs ++ ys)) others

-- The typed items, the columns of `*` first.
abbrev pub all_items : Catalog → Scope → Statement → Result (List TypedExpr) Refusal
all_items c s statement = result_and_then (λ star. behind star
    (typed_all c s statement.groups (own_place statement)
    (map (λ item. item.expr) statement.items)))
    (star_items c (own_place statement) statement.groups (star_columns c s statement.star))

-- The members of a typed AND, each already taken apart; None for any other node.
abbrev pub and_members : {A : Type 0} → Node-F (Node × A) (TypedExpr × List TypedExpr)
    → Option (List TypedExpr)
and_members (Node-F.And xs) = Some (flat_map (λ x. x.1) xs)
and_members node = None

abbrev pub own_members : Node → TypedExpr → Option (List TypedExpr) → List TypedExpr
own_members node x (Some xs) = xs
own_members node x None = x ∷ []

-- The conjuncts of a typed expression: the members of its AND, taken apart through each AND among
-- them.
unfoldable pub conjuncts : TypedExpr → List TypedExpr
conjuncts x = para-TypedExpr (Option (List TypedExpr)) (List TypedExpr) and_members
    (λ e. own_members e.node.0 (record { node = e.node.0; ty = e.ty }) e.node.1) x

-- WHERE takes a number.
abbrev pub condition : TypedExpr → Result (List TypedExpr) Refusal
condition x = if is_text x.ty then Err (wrong_argument (codes "where")) else Ok (conjuncts x)

abbrev pub where_of : Catalog → Scope → Option Expr → Result (List TypedExpr) Refusal
where_of c s None = Ok []
where_of c s (Some expr) = result_and_then condition (in_row c s expr)

-- The name that an expression is, if it is one alone.
abbrev pub name_alone : Form → Option (List ℕ)
name_alone (form.Name name) = Some name
name_alone other = None

-- The first item that has this alias.
abbrev pub aliased : List Item → List ℕ → Option Item
aliased items name = find (λ item. option_map_or (bytes_eq name) item.alias false) items

-- The expression of the item whose alias an order is.
abbrev pub item_expr : List Item → Expr → Option Expr
item_expr items expr = option_map (λ item. item.expr)
    (option_and_then (aliased items) (name_alone expr.form))

-- The expression is a number literal.
abbrev pub is_int : Form → Bool
is_int (form.Int number) = true
is_int other = false

-- An expression of GROUP BY: no number literal.
abbrev pub group_typing : Catalog → Scope → Expr → Typing
group_typing c s expr =
    if is_int expr.form then Err (wrong_argument (codes "group by")) else in_row c s expr

-- The expressions of GROUP BY.
abbrev pub group_keys : Catalog → Scope → List Expr → Result (List TypedExpr) Refusal
group_keys c s groups = operands c s plain (map (group_typing c s) groups)

-- An order by itself: no number literal.
abbrev pub own_order : Catalog → Scope → List Expr → Place → ℕ → Expr → Typing
own_order c s groups place number expr = if is_int expr.form
    then Err (wrong_argument (codes "order by")) else typing c s groups place number expr

-- An order: the item that it names by an alias, else itself.
abbrev pub order_typing : Catalog → Scope → List Expr → Place → List Item → ℕ → Expr → Typing
order_typing c s groups place items number expr =
    option_map_or (typing c s groups place number) (item_expr items expr)
    (own_order c s groups place number expr)

-- How many aggregates an order has.
abbrev pub order_count : List Item → Expr → ℕ
order_count items expr = aggregate_count (unwrap_or (item_expr items expr) expr)

-- The keys of ORDER BY, their aggregates numbered from a number on.
abbrev pub order_keys : Catalog → Scope → List Expr → Place → List Item → ℕ → List OrderItem
    → Result (List TypedOrder) Refusal
order_keys c s groups place items number [] = Ok []
order_keys c s groups place items number (o ∷ os) = result_and_then (λ x. result_and_then (λ keys.
    Ok (record { expr = x; desc = o.desc } ∷ keys))
    (order_keys c s groups place items (number + order_count items o.expr) os))
    (order_typing c s groups place items number o.expr)

-- How many aggregates the items have.
abbrev pub items_count : Statement → ℕ
items_count statement = total (λ item. aggregate_count item.expr) statement.items

-- The keys of a statement: the aggregates of its items come before theirs.
abbrev pub all_keys : Catalog → Scope → Statement → Result (List TypedOrder) Refusal
all_keys c s statement = order_keys c s statement.groups (own_place statement) statement.items
    (items_count statement) statement.orders

-- The typed statement of these parts.
abbrev pub typed_of : List ℕ → Statement → Catalog → Scope → List TypedExpr → List TypedExpr
    → List TypedExpr → List TypedOrder → Typed
typed_of script statement c s items conditions groups orders = record {
  explain = statement.explain;
  table = s.table;
  distinct = statement.distinct;
  header = map (λ column. column.name) (star_columns c s statement.star)
      ++ map (header_of script) statement.items;
  items = items;
  conjuncts = conditions;
  grouped = is_grouped statement;
  groups = groups;
  orders = orders;
  limit = statement.limit;
}

-- A statement in its scope.
abbrev pub typed_in : List ℕ → Statement → Catalog → Scope → Result Typed Refusal
typed_in script statement c s = result_and_then (λ items. result_and_then (λ conditions.
    result_and_then (λ groups. result_and_then (λ orders.
    Ok (typed_of script statement c s items conditions groups orders)) (all_keys c s statement))
    (group_keys c s statement.groups)) (where_of c s statement.filter)) (all_items c s statement)

-- The scope of a statement: its table's place in the catalog.
abbrev pub scope_in : Catalog → Session → Option (List ℕ) → Result Scope Refusal
scope_in c session None = Ok (record { table = None; connection = session.connection })
scope_in c session (Some name) =
    option_map_or (λ place. Ok (record { table = Some place; connection = session.connection }))
    (position (λ table. bytes_eq table.name name) c.tables) (Err (no_table name))

-- The typed statement, or its refusal.
unfoldable pub typed_statement : List ℕ → Statement → Catalog → Session → Result Typed Refusal
typed_statement script statement c session =
    result_and_then (typed_in script statement c) (scope_in c session statement.table)
