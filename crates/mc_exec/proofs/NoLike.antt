-- LIKE stands in an expression where it stands in an operand.
use Rattle.std.proofs.Common.{◌≡◌, Bool, false, ◌||◌, All, List, [], ◌∷◌, None, Some, map}
use Rattle.std.proofs.Common.{sym, ◌∙◌}
use Rattle.std.proofs.lemmas.Bool.{or_parts}
use Rattle.std.proofs.lemmas.List.Elements.{All-from_recursion}
use Rattle.std.specs.List.{AllByRecursion, list_any}
use Rattle.mc_eval.specs.Fit.{has_like, is_like}
use Rattle.mc_eval.specs.Layers.{operands}
use Rattle.mc_typing.specs.Parts.{node_parts}
use Rattle.mc_typing.specs.declared.typed.Node.{Node, Node-F, out-Node, map-Node, fold-Node}
use Rattle.mc_typing.specs.declared.typed.Node.{fold_out-Node}
use Rattle.mc_typing.specs.declared.typed.TypedExpr.{TypedExpr, fold_out-TypedExpr}

abbrev like_layer : Node-F Bool Bool → Bool
like_layer node = is_like node || list_any (λ x. x) (operands node)

abbrev like_node : Node → Bool
like_node node = fold-Node Bool Bool like_layer (λ x. x.node) node

abbrev like_over : Node-F Node TypedExpr → Node-F Bool Bool
like_over node = map-Node Node TypedExpr Bool Bool like_node has_like node

like_expr_is : (e : TypedExpr) → has_like e ≡ like_node e.node
unfolding has_like
like_expr_is e = fold_out-TypedExpr Bool Bool like_layer (λ x. x.node) e

like_node_is : (node : Node) → like_node node ≡ like_layer (like_over (out-Node node))
unfolding has_like
like_node_is node = fold_out-Node Bool Bool like_layer (λ x. x.node) node

each_likes : (xs : List TypedExpr) → list_any (λ x. x) (map has_like xs) ≡ false
    → AllByRecursion (λ x. has_like x ≡ false) xs
each_likes [] h = tt
each_likes (x ∷ xs) h =
    let both = or_parts (has_like x) (list_any (λ x. x) (map has_like xs)) h in
    (both.0, each_likes xs both.1)

layer_likes : (node : Node-F Node TypedExpr)
    → list_any (λ x. x) (operands (like_over node)) ≡ false
    → AllByRecursion (λ x. has_like x ≡ false) (node_parts node)
layer_likes (Node-F.Const it) h = tt
layer_likes (Node-F.Column place) h = tt
layer_likes (Node-F.Collate x) h = each_likes (x ∷ []) h
layer_likes (Node-F.Compare op coll xs) h = each_likes xs h
layer_likes (Node-F.Like coll xs escape negated) h = each_likes xs h
layer_likes (Node-F.In coll xs negated) h = each_likes xs h
layer_likes (Node-F.Between coll xs negated) h = each_likes xs h
layer_likes (Node-F.IsNull x negated) h = each_likes (x ∷ []) h
layer_likes (Node-F.Not x) h = each_likes (x ∷ []) h
layer_likes (Node-F.Neg x) h = each_likes (x ∷ []) h
layer_likes (Node-F.And xs) h = each_likes xs h
layer_likes (Node-F.Or xs) h = each_likes xs h
layer_likes (Node-F.Xor xs) h = each_likes xs h
layer_likes (Node-F.Arith op xs) h = each_likes xs h
layer_likes (Node-F.Call name uses xs) h = each_likes xs h
layer_likes (Node-F.NumberText set x) h = each_likes (x ∷ []) h
layer_likes (Node-F.Convert set x) h = each_likes (x ∷ []) h
layer_likes (Node-F.Aggregate name distinct None place) h = tt
layer_likes (Node-F.Aggregate name distinct (Some x) place) h = each_likes (x ∷ []) h
layer_likes (Node-F.WeightString cut x) h = each_likes (x ∷ []) h

pub parts_like : (e : TypedExpr) → has_like e ≡ false
    → AllByRecursion (λ x. has_like x ≡ false) (node_parts (out-Node e.node))
parts_like e h =
    let layer : like_layer (like_over (out-Node e.node)) ≡ false =
    sym (like_node_is e.node) ∙ (sym (like_expr_is e) ∙ h) in
    layer_likes (out-Node e.node)
    (or_parts (is_like (like_over (out-Node e.node)))
    (list_any (λ x. x) (operands (like_over (out-Node e.node)))) layer).1

pub operands_like : (e : TypedExpr) → has_like e ≡ false
    → All (λ x. has_like x ≡ false) (node_parts (out-Node e.node))
operands_like e h = All-from_recursion (λ x. has_like x ≡ false) (node_parts (out-Node e.node))
    (parts_like e h)
