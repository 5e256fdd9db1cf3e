-- The aggregates that stand in a typed expression, by their types.
use Rattle.std.specs.Prelude.{Bool, true, false, List, [], ◌∷◌, ◌++◌}
use Rattle.std.specs.List.{flat_map}
use Rattle.mc_typing.specs.declared.typed.Node.{Node-F}
use Rattle.mc_typing.specs.declared.typed.Ty.{Ty}
use Rattle.mc_typing.specs.declared.typed.TypedExpr.{TypedExpr, fold-TypedExpr}
use Rattle.mc_typing.specs.Parts.{node_parts}

-- The node itself is an aggregate.
abbrev pub is_aggregate_node : {X A : Type 0} → Node-F X A → Bool
is_aggregate_node (Node-F.Aggregate name distinct arg place) = true
is_aggregate_node node = false

-- The type of an aggregate, behind those of its operands.
abbrev pub types_with : Bool → List Ty → Ty → List Ty
types_with true types ty = types ++ ty ∷ []
types_with false types ty = types

-- The types of the aggregates of an expression, operands before their operation.
unfoldable pub aggregate_types : TypedExpr → List Ty
aggregate_types x = fold-TypedExpr (Bool × List Ty) (List Ty)
    (λ node. (is_aggregate_node node, flat_map (λ types. types) (node_parts node)))
    (λ e. types_with e.node.0 e.node.1 e.ty) x
