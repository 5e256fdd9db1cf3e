-- The aggregates of a statement, and their values over rows: MySQL 8.0 manual, 12.20.1.
use Rattle.std.specs.Prelude.{ℕ, Bool, true, false, not, pos, List, [], ◌∷◌, ◌++◌, length}
use Rattle.std.specs.Prelude.{Option, Some, None, Result, Ok, Err, filter, unwrap_or}
use Rattle.std.specs.List.{find, flat_map, list_any}
use Rattle.std.specs.Option.{option_and_then}
use Rattle.std.specs.Ordering.{flip_args}
use Rattle.std.specs.declared.cmp.Ordering.{Ordering}
use Rattle.mc_group.specs.Extremes.{stands_before}
use Rattle.mc_group.specs.Groups.{firsts, same_value}
use Rattle.mc_group.specs.Order.{value_order}
use Rattle.mc_group.specs.Sums.{is_null, sum_of}
use Rattle.mc_group.specs.declared.kind.KeyKind.{KeyKind}
use Rattle.mc_group.specs.declared.sums.SumFault.{SumFault}
use Rattle.mc_order.specs.Meaning.{Meaning}
use Rattle.mc_typing.specs.AggregateTypes.{is_aggregate_node}
use Rattle.mc_typing.specs.Parts.{node_parts}
use Rattle.mc_typing.specs.declared.typed.AggName.{AggName}
use Rattle.mc_typing.specs.declared.typed.AggName.TheVariants.{Count, Min, Max, Sum}
use Rattle.mc_typing.specs.declared.typed.Node.{Node-F, out-Node}
use Rattle.mc_typing.specs.declared.typed.Typed.{Typed}
use Rattle.mc_typing.specs.declared.typed.TypedExpr.{TypedExpr, para-TypedExpr}
use Rattle.mc_values.specs.declared.value.Value.{Value}
use Rattle.mc_values.specs.declared.value.Value.TheVariants as value
use Rattle.mc_exec.specs.Given.{all_of, alone, value_in}
use Rattle.mc_exec.specs.Ordered.{kind_of}

-- The expression behind others, if it is an aggregate.
abbrev pub with_itself : Bool → List TypedExpr → TypedExpr → List TypedExpr
with_itself true others x = others ++ x ∷ []
with_itself false others x = others

-- The aggregates of an expression, operands before their operation.
unfoldable pub aggregates_of : TypedExpr → List TypedExpr
aggregates_of x = para-TypedExpr (Bool × List TypedExpr) (List TypedExpr)
    (λ node. (is_aggregate_node node, flat_map (λ part. part.1) (node_parts node)))
    (λ e. with_itself e.node.1.0 e.node.1.1 (record { node = e.node.0; ty = e.ty })) x

-- The aggregates of a statement: those of its items, then those of its keys.
abbrev pub aggregates_in : Typed → List TypedExpr
aggregates_in q = flat_map aggregates_of q.items
    ++ flat_map (λ key. aggregates_of key.expr) q.orders

-- The values that are not NULL.
abbrev pub present : List Value → List Value
present values = filter (λ it. not (is_null it)) values

-- COUNT: how many values are not NULL; with DISTINCT, how many that no earlier one is the same as.
abbrev pub count_of : (ℕ → Meaning) → KeyKind → Bool → List Value → ℕ
count_of meaning of false values = length (present values)
count_of meaning of true values = length (firsts (same_value meaning of) (present values))

-- The first value that no other one stands before, NULL behind all; NULL where there is none.
abbrev pub extreme : (Value → Value → Ordering) → List Value → Value
extreme order values = unwrap_or
    (find (λ it. not (list_any (λ other. stands_before order other it) values)) values) value.Null

-- The sum, if it is a number of 64 bits.
abbrev pub sum_given : Result Value SumFault → Option Value
sum_given (Ok it) = Some it
sum_given (Err fault) = None

-- An aggregate of values; none where it is outside 64 bits.
abbrev pub combined : (ℕ → Meaning) → AggName → Bool → KeyKind → List Value → Option Value
combined meaning Count distinct of values =
    Some (value.Int (pos (count_of meaning of distinct values)))
combined meaning Min distinct of values = Some (extreme (value_order meaning of) values)
combined meaning Max distinct of values = Some (extreme (flip_args (value_order meaning of)) values)
combined meaning Sum distinct of values = sum_given (sum_of values)

-- The values of an expression in each of these rows, without aggregates.
abbrev pub column_of : (ℕ → Meaning) → TypedExpr → List (List Value) → Option (List Value)
column_of meaning x rows = all_of (λ row. value_in meaning (alone row) x) rows

-- The value of an aggregate over rows: that of the values of its argument. COUNT(*) has none and
-- counts the rows. None where a value is a fault.
abbrev pub node_over : {X : Type 0} → (ℕ → Meaning) → Node-F X TypedExpr → List (List Value)
    → Option Value
node_over meaning (Node-F.Aggregate name distinct None place) rows =
    Some (value.Int (pos (length rows)))
node_over meaning (Node-F.Aggregate name distinct (Some x) place) rows =
    option_and_then (combined meaning name distinct (kind_of x.ty)) (column_of meaning x rows)
node_over meaning node rows = Some value.Null

abbrev pub aggregate_over : (ℕ → Meaning) → List (List Value) → TypedExpr → Option Value
aggregate_over meaning rows aggregate = node_over meaning (out-Node aggregate.node) rows

-- The values of aggregates over rows; none where one is a fault.
abbrev pub aggregates_over : (ℕ → Meaning) → List TypedExpr → List (List Value)
    → Option (List Value)
aggregates_over meaning aggregates rows = all_of (aggregate_over meaning rows) aggregates
