-- The aggregates that stand in a typed expression, by their places in their statement.
use Rattle.std.specs.Prelude.{ℕ, List, [], ◌∷◌, ◌++◌}
use Rattle.std.specs.List.{flat_map}
use Rattle.mc_typing.specs.declared.typed.Node.{Node-F}
use Rattle.mc_typing.specs.declared.typed.TypedExpr.{TypedExpr, fold-TypedExpr}
use Rattle.mc_typing.specs.Parts.{node_parts}

-- The place of an aggregate; no other node has one.
abbrev pub own_places : {X A : Type 0} → Node-F X A → List ℕ
own_places (Node-F.Aggregate name distinct arg place) = place ∷ []
own_places node = []

-- The places of the aggregates of an expression, operands before their operation.
unfoldable pub aggregate_places : TypedExpr → List ℕ
aggregate_places x = fold-TypedExpr (List ℕ) (List ℕ)
    (λ node. flat_map (λ places. places) (node_parts node) ++ own_places node) (λ e. e.node) x
