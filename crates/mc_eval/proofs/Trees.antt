-- Induction over a typed expression: what holds where it holds of the operands holds of it.
use Rattle.std.proofs.Common.{◌≡◌, List, [], ◌∷◌, Some, None, map, sym, subst}
use Rattle.std.specs.List.{AllByRecursion}
use Rattle.mc_typing.specs.declared.typed.Node.{Node, Node-F, map-Node, out-Node, out-roll-Node}
use Rattle.mc_typing.specs.declared.typed.Node.{roll-Node}
use Rattle.mc_typing.specs.declared.typed.TypedExpr.{TypedExpr, TypedExpr-F, ind-TypedExpr}
use Rattle.mc_typing.specs.declared.typed.TypedExpr.{map-TypedExpr, roll-TypedExpr}
use Rattle.mc_typing.specs.Parts.{node_parts}

-- What is shown of each where it is sound holds of each, where all are.
pub each_shown : (Sound Good : TypedExpr → Type 0) (xs : List TypedExpr)
    → AllByRecursion (λ x. Sound x → Good x) xs → AllByRecursion Sound xs → AllByRecursion Good xs
each_shown Sound Good [] h k = tt
each_shown Sound Good (x ∷ xs) h k = (h.0 k.0, each_shown Sound Good xs h.1 k.1)

module _ (P : TypedExpr → Type 0)
    (step : (x : TypedExpr) → AllByRecursion P (node_parts (out-Node x.node)) → P x) where
  abbrev OfNode : Node → Type 0
  OfNode n = AllByRecursion P (node_parts (out-Node n))

  abbrev NodeHeld : Type 0
  NodeHeld = (n : Node) × OfNode n

  abbrev ExprHeld : Type 0
  ExprHeld = (x : TypedExpr) × P x

  abbrev without : Node-F NodeHeld ExprHeld → Node-F Node TypedExpr
  without y = map-Node NodeHeld ExprHeld Node TypedExpr (λ e. e.0) (λ e. e.0) y

  each : (es : List ExprHeld) → AllByRecursion P (map (λ e. e.0) es)
  each [] = tt
  each (e ∷ es) = (e.1, each es)

  layer : (y : Node-F NodeHeld ExprHeld) → AllByRecursion P (node_parts (without y))
  layer (Node-F.Const it) = tt
  layer (Node-F.Column place) = tt
  layer (Node-F.Collate x) = (x.1, tt)
  layer (Node-F.Compare op coll xs) = each xs
  layer (Node-F.Like coll xs escape negated) = each xs
  layer (Node-F.In coll xs negated) = each xs
  layer (Node-F.Between coll xs negated) = each xs
  layer (Node-F.IsNull x negated) = (x.1, tt)
  layer (Node-F.Not x) = (x.1, tt)
  layer (Node-F.Neg x) = (x.1, tt)
  layer (Node-F.And xs) = each xs
  layer (Node-F.Or xs) = each xs
  layer (Node-F.Xor xs) = each xs
  layer (Node-F.Arith op xs) = each xs
  layer (Node-F.Call name uses xs) = each xs
  layer (Node-F.NumberText set x) = (x.1, tt)
  layer (Node-F.Convert set x) = (x.1, tt)
  layer (Node-F.Aggregate name distinct None place) = tt
  layer (Node-F.Aggregate name distinct (Some x) place) = (x.1, tt)
  layer (Node-F.WeightString cut x) = (x.1, tt)

  node_step : (l : Node-F Node TypedExpr) (y : Node-F NodeHeld ExprHeld) → without y ≡ l
      → OfNode (roll-Node l)
  node_step l y is = subst (λ (z : Node-F Node TypedExpr). AllByRecursion P (node_parts z))
      (sym (out-roll-Node l))
      (subst (λ (z : Node-F Node TypedExpr). AllByRecursion P (node_parts z)) is (layer y))

  expr_step : (e : TypedExpr-F Node TypedExpr) (y : TypedExpr-F NodeHeld ExprHeld)
      → map-TypedExpr NodeHeld ExprHeld Node TypedExpr (λ z. z.0) (λ z. z.0) y ≡ e
      → P (roll-TypedExpr e)
  expr_step e y is =
      let x : TypedExpr = record { node = e.node; ty = e.ty } in
      step x (subst (λ (z : TypedExpr-F Node TypedExpr). OfNode z.node) is y.node.1)

  pub tree_ind : (x : TypedExpr) → P x
  tree_ind x = ind-TypedExpr OfNode P node_step expr_step x
