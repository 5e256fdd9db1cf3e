-- The aggregates of an expression: those of its operands, and itself where it is one.
use Rattle.std.proofs.Common.{◌≡◌, Bool, true, false, List, [], ◌∷◌, ◌++◌, None, Some, map, refl}
use Rattle.std.proofs.Common.{sym, ap, ◌∙◌, subst}
use Rattle.std.specs.List.{AllByRecursion, flat_map}
use Rattle.mc_eval.specs.Fit.{has_like}
use Rattle.mc_typing.specs.AggregateTypes.{is_aggregate_node}
use Rattle.mc_typing.specs.Parts.{node_parts}
use Rattle.mc_typing.specs.declared.typed.Node.{Node, Node-F, map-Node, out-Node, out-roll-Node}
use Rattle.mc_typing.specs.declared.typed.Node.{para-Node, para-roll-Node, roll-Node, roll-out-Node}
use Rattle.mc_typing.specs.declared.typed.TypedExpr.{TypedExpr, TypedExpr-F, ind-TypedExpr}
use Rattle.mc_typing.specs.declared.typed.TypedExpr.{map-TypedExpr, out-TypedExpr}
use Rattle.mc_typing.specs.declared.typed.TypedExpr.{para-roll-TypedExpr, roll-TypedExpr}
use Rattle.mc_typing.specs.declared.typed.TypedExpr.{roll-out-TypedExpr}
use Rattle.mc_exec.specs.Aggregates.{aggregates_of, with_itself}
use Rattle.mc_exec.proofs.NoLike.{parts_like}

abbrev found_in : Node-F (Node × (Bool × List TypedExpr)) (TypedExpr × List TypedExpr)
    → Bool × List TypedExpr
found_in node = (is_aggregate_node node, flat_map (λ part. part.1) (node_parts node))

abbrev own : TypedExpr-F (Node × (Bool × List TypedExpr)) (TypedExpr × List TypedExpr)
    → List TypedExpr
own e = with_itself e.node.1.0 e.node.1.1 (record { node = e.node.0; ty = e.ty })

abbrev of_node : Node → Bool × List TypedExpr
of_node n = para-Node (Bool × List TypedExpr) (List TypedExpr) found_in own n

abbrev taken : Node-F Node TypedExpr
    → Node-F (Node × (Bool × List TypedExpr)) (TypedExpr × List TypedExpr)
taken z = map-Node Node TypedExpr (Node × (Bool × List TypedExpr)) (TypedExpr × List TypedExpr)
    (λ n. (n, of_node n)) (λ x. (x, aggregates_of x)) z

node_rolled : (z : Node-F Node TypedExpr) → of_node (roll-Node z) ≡ found_in (taken z)
unfolding aggregates_of
node_rolled z = para-roll-Node (Bool × List TypedExpr) (List TypedExpr) found_in own z

node_is : (n : Node) → of_node n ≡ found_in (taken (out-Node n))
node_is n = ap of_node (sym (roll-out-Node n)) ∙ node_rolled (out-Node n)

expr_rolled : (x : TypedExpr-F Node TypedExpr) → aggregates_of (roll-TypedExpr x)
    ≡ with_itself (of_node x.node).0 (of_node x.node).1 (record { node = x.node; ty = x.ty })
unfolding aggregates_of
expr_rolled x = para-roll-TypedExpr (Bool × List TypedExpr) (List TypedExpr) found_in own x

each_taken : (xs : List TypedExpr)
    → flat_map (λ (p : TypedExpr × List TypedExpr). p.1) (map (λ x. (x, aggregates_of x)) xs)
    ≡ flat_map aggregates_of xs
each_taken [] = refl
each_taken (x ∷ xs) = ap (λ ys. aggregates_of x ++ ys) (each_taken xs)

layer_taken : (z : Node-F Node TypedExpr)
    → found_in (taken z) ≡ (is_aggregate_node z, flat_map aggregates_of (node_parts z))
layer_taken (Node-F.Const it) = refl
layer_taken (Node-F.Column place) = refl
layer_taken (Node-F.Collate x) = refl
layer_taken (Node-F.Compare op coll xs) = ap (λ l. (false, l)) (each_taken xs)
layer_taken (Node-F.Like coll xs escape negated) = ap (λ l. (false, l)) (each_taken xs)
layer_taken (Node-F.In coll xs negated) = ap (λ l. (false, l)) (each_taken xs)
layer_taken (Node-F.Between coll xs negated) = ap (λ l. (false, l)) (each_taken xs)
layer_taken (Node-F.IsNull x negated) = refl
layer_taken (Node-F.Not x) = refl
layer_taken (Node-F.Neg x) = refl
layer_taken (Node-F.And xs) = ap (λ l. (false, l)) (each_taken xs)
layer_taken (Node-F.Or xs) = ap (λ l. (false, l)) (each_taken xs)
layer_taken (Node-F.Xor xs) = ap (λ l. (false, l)) (each_taken xs)
layer_taken (Node-F.Arith op xs) = ap (λ l. (false, l)) (each_taken xs)
layer_taken (Node-F.Call name uses xs) = ap (λ l. (false, l)) (each_taken xs)
layer_taken (Node-F.NumberText set x) = refl
layer_taken (Node-F.Convert set x) = refl
layer_taken (Node-F.Aggregate name distinct None place) = refl
layer_taken (Node-F.Aggregate name distinct (Some x) place) = refl
layer_taken (Node-F.WeightString cut x) = refl

pub aggregates_are : (x : TypedExpr) → aggregates_of x
    ≡ with_itself (is_aggregate_node (out-Node x.node))
    (flat_map aggregates_of (node_parts (out-Node x.node))) x
aggregates_are x = ap aggregates_of (sym (roll-out-TypedExpr x))
    ∙ (expr_rolled (out-TypedExpr x)
    ∙ (ap (λ p. with_itself p.0 p.1 (record { node = x.node; ty = x.ty }))
    (node_is x.node ∙ layer_taken (out-Node x.node))
    ∙ ap (with_itself (is_aggregate_node (out-Node x.node))
    (flat_map aggregates_of (node_parts (out-Node x.node)))) (roll-out-TypedExpr x)))

-- Induction over a typed expression

module _ (P : TypedExpr → Type 0)
    (step : (x : TypedExpr) → AllByRecursion P (node_parts (out-Node x.node)) → P x) where
  abbrev OfNode : Node → Type 0
  OfNode n = AllByRecursion P (node_parts (out-Node n))

  abbrev NodeHeld : Type 0
  NodeHeld = (n : Node) × OfNode n

  abbrev ExprHeld : Type 0
  ExprHeld = (x : TypedExpr) × P x

  abbrev without : Node-F NodeHeld ExprHeld → Node-F Node TypedExpr
  without y = map-Node NodeHeld ExprHeld Node TypedExpr (λ e. e.0) (λ e. e.0) y

  each : (es : List ExprHeld) → AllByRecursion P (map (λ e. e.0) es)
  each [] = tt
  each (e ∷ es) = (e.1, each es)

  layer : (y : Node-F NodeHeld ExprHeld) → AllByRecursion P (node_parts (without y))
  layer (Node-F.Const it) = tt
  layer (Node-F.Column place) = tt
  layer (Node-F.Collate x) = (x.1, tt)
  layer (Node-F.Compare op coll xs) = each xs
  layer (Node-F.Like coll xs escape negated) = each xs
  layer (Node-F.In coll xs negated) = each xs
  layer (Node-F.Between coll xs negated) = each xs
  layer (Node-F.IsNull x negated) = (x.1, tt)
  layer (Node-F.Not x) = (x.1, tt)
  layer (Node-F.Neg x) = (x.1, tt)
  layer (Node-F.And xs) = each xs
  layer (Node-F.Or xs) = each xs
  layer (Node-F.Xor xs) = each xs
  layer (Node-F.Arith op xs) = each xs
  layer (Node-F.Call name uses xs) = each xs
  layer (Node-F.NumberText set x) = (x.1, tt)
  layer (Node-F.Convert set x) = (x.1, tt)
  layer (Node-F.Aggregate name distinct None place) = tt
  layer (Node-F.Aggregate name distinct (Some x) place) = (x.1, tt)
  layer (Node-F.WeightString cut x) = (x.1, tt)

  node_step : (l : Node-F Node TypedExpr) (y : Node-F NodeHeld ExprHeld) → without y ≡ l
      → OfNode (roll-Node l)
  node_step l y is = subst (λ (z : Node-F Node TypedExpr). AllByRecursion P (node_parts z))
      (sym (out-roll-Node l))
      (subst (λ (z : Node-F Node TypedExpr). AllByRecursion P (node_parts z)) is (layer y))

  expr_step : (e : TypedExpr-F Node TypedExpr) (y : TypedExpr-F NodeHeld ExprHeld)
      → map-TypedExpr NodeHeld ExprHeld Node TypedExpr (λ z. z.0) (λ z. z.0) y ≡ e
      → P (roll-TypedExpr e)
  expr_step e y is =
      let x : TypedExpr = record { node = e.node; ty = e.ty } in
      step x (subst (λ (z : TypedExpr-F Node TypedExpr). OfNode z.node) is y.node.1)

  pub tree_ind : (x : TypedExpr) → P x
  tree_ind x = ind-TypedExpr OfNode P node_step expr_step x

-- What holds of each member of lists that are joined

pub each_append : {A : Type 0} (Q : A → Type 0) (xs ys : List A) → AllByRecursion Q xs
    → AllByRecursion Q ys → AllByRecursion Q (xs ++ ys)
each_append Q [] ys h k = k
each_append Q (x ∷ xs) ys h k = (h.0, each_append Q xs ys h.1 k)

pub each_joined : {A B : Type 0} (Q : B → Type 0) (f : A → List B) (xs : List A)
    → AllByRecursion (λ x. AllByRecursion Q (f x)) xs → AllByRecursion Q (flat_map f xs)
each_joined Q f [] h = tt
each_joined Q f (x ∷ xs) h = each_append Q (f x) (flat_map f xs) h.0 (each_joined Q f xs h.1)

each_with : (Q : TypedExpr → Type 0) (b : Bool) (others : List TypedExpr) (x : TypedExpr)
    → AllByRecursion Q others → (b ≡ true → Q x) → AllByRecursion Q (with_itself b others x)
each_with Q true others x h k = each_append Q others (x ∷ []) h (k refl, tt)
each_with Q false others x h k = h

each_good : (Good Q : TypedExpr → Type 0) (xs : List TypedExpr)
    → AllByRecursion (λ x. Good x → AllByRecursion Q (aggregates_of x)) xs
    → AllByRecursion Good xs → AllByRecursion (λ x. AllByRecursion Q (aggregates_of x)) xs
each_good Good Q [] h k = tt
each_good Good Q (x ∷ xs) h k = (h.0 k.0, each_good Good Q xs h.1 k.1)

-- What holds of each aggregate of an expression, where it holds of each aggregate that is good and
-- the operands of what is good are good.
pub each_aggregate : (Good Q : TypedExpr → Type 0)
    → ((x : TypedExpr) → Good x → AllByRecursion Good (node_parts (out-Node x.node)))
    → ((x : TypedExpr) → Good x → is_aggregate_node (out-Node x.node) ≡ true → Q x)
    → (x : TypedExpr) → Good x → AllByRecursion Q (aggregates_of x)
each_aggregate Good Q down here x =
    tree_ind (λ y. Good y → AllByRecursion Q (aggregates_of y))
    (λ y ih good. subst (AllByRecursion Q) (sym (aggregates_are y))
    (each_with Q (is_aggregate_node (out-Node y.node))
    (flat_map aggregates_of (node_parts (out-Node y.node))) y
    (each_joined Q aggregates_of (node_parts (out-Node y.node))
    (each_good Good Q (node_parts (out-Node y.node)) ih (down y good)))
    (here y good))) x

-- Where no LIKE stands in an expression, none stands in its aggregates.
pub aggregates_like : (x : TypedExpr) → has_like x ≡ false
    → AllByRecursion (λ a. has_like a ≡ false) (aggregates_of x)
aggregates_like x h = each_aggregate (λ y. has_like y ≡ false) (λ y. has_like y ≡ false)
    (λ y k. parts_like y k) (λ y k e. k) x h
