-- The keys of ORDER BY behind others, and the scope of a table by its name.
use Rattle.std.specs.Prelude.{ℕ, ◌+◌, Bool, List, [], ◌∷◌, ◌++◌, Some, Result, Ok, Err, position}
use Rattle.std.specs.Option.{option_map_or}
use Rattle.std.specs.Str.{bytes_eq}
use Rattle.mc_base.specs.Results.{result_and_then}
use Rattle.mc_base.specs.declared.refusal.Refusal.{Refusal}
use Rattle.mc_ast.specs.declared.expr.Expr.{Expr}
use Rattle.mc_ast.specs.declared.statement.Item.{Item}
use Rattle.mc_ast.specs.declared.statement.OrderItem.{OrderItem}
use Rattle.mc_charset.specs.declared.collation_id.CollId.{CollId}
use Rattle.mc_catalog.specs.declared.catalog.Catalog.{Catalog}
use Rattle.mc_catalog.specs.declared.catalog.TableDecl.{TableDecl}
use Rattle.mc_typing.specs.declared.place.Place.{Place}
use Rattle.mc_typing.specs.declared.scope.Scope.{Scope}
use Rattle.mc_typing.specs.declared.typed.TypedExpr.{TypedExpr}
use Rattle.mc_typing.specs.declared.typed.TypedOrder.{TypedOrder}
use Rattle.mc_typing.specs.Aggregates.{aggregate_count}
use Rattle.mc_typing.specs.Exprs.{Typing}
use Rattle.mc_typing.specs.Messages.{no_table}
use Rattle.mc_typing.specs.Statements.{order_count, order_typing, own_order}

-- A key of ORDER BY behind others, and the number behind its aggregates.
abbrev pub with_key : Bool → List TypedOrder → Result (TypedExpr × ℕ) Refusal
    → Result (List TypedOrder × ℕ) Refusal
with_key desc keys t =
    result_and_then (λ x. Ok (keys ++ record { expr = x.0; desc = desc } ∷ [], x.1)) t

-- An order by itself, and the number behind its aggregates.
abbrev pub numbered_own : Catalog → Scope → List Expr → Place → ℕ → Expr
    → Result (TypedExpr × ℕ) Refusal
numbered_own c s groups place number expr = result_and_then
    (λ x. Ok (x, number + aggregate_count expr)) (own_order c s groups place number expr)

-- An order, and the number behind its aggregates.
abbrev pub numbered_order : Catalog → Scope → List Expr → Place → List Item → ℕ → Expr
    → Result (TypedExpr × ℕ) Refusal
numbered_order c s groups place items number expr =
    result_and_then (λ x. Ok (x, number + order_count items expr))
    (order_typing c s groups place items number expr)

-- Keys of ORDER BY behind others.
abbrev pub with_keys : Catalog → Scope → List Expr → Place → List Item → List TypedOrder → ℕ
    → List OrderItem → Result (List TypedOrder × ℕ) Refusal
with_keys c s groups place items keys number [] = Ok (keys, number)
with_keys c s groups place items keys number (o ∷ os) =
    result_and_then (λ more. with_keys c s groups place items more.0 more.1 os)
    (with_key o.desc keys (numbered_order c s groups place items number o.expr))

-- Expressions behind others, up to the first that is refused.
abbrev pub with_typings : List TypedExpr → List Typing → Result (List TypedExpr) Refusal
with_typings xs [] = Ok xs
with_typings xs (t ∷ ts) = result_and_then (λ x. with_typings (xs ++ x ∷ []) ts) t

-- The scope of a statement with this table.
abbrev pub scope_named : List TableDecl → CollId → List ℕ → Result Scope Refusal
scope_named tables connection name =
    option_map_or (λ place. Ok (record { table = Some place; connection = connection }))
    (position (λ table. bytes_eq table.name name) tables) (Err (no_table name))
