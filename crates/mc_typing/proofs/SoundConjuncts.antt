-- The conjuncts of a sound truth value are sound truth values.
use Rattle.std.proofs.Common.{◌≡◌, List, [], ◌∷◌, ◌++◌, Option, None, Some, map, sym}
use Rattle.std.proofs.Common.{subst}
use Rattle.std.proofs.lemmas.List.Elements.{recursion_from_All}
use Rattle.std.specs.Prelude.{IfSome}
use Rattle.std.specs.List.{AllByRecursion, flat_map}
use Rattle.mc_catalog.specs.declared.catalog.Catalog.{Catalog}
use Rattle.mc_typing.specs.declared.typed.Node.{Node, Node-F, map-Node, out-Node, out-roll-Node}
use Rattle.mc_typing.specs.declared.typed.Node.{para-Node, para-roll-Node, roll-Node}
use Rattle.mc_typing.specs.declared.typed.Ty.{Ty}
use Rattle.mc_typing.specs.declared.typed.TypedExpr.{TypedExpr, TypedExpr-F, ind-TypedExpr}
use Rattle.mc_typing.specs.declared.typed.TypedExpr.{map-TypedExpr, para-TypedExpr}
use Rattle.mc_typing.specs.declared.typed.TypedExpr.{para-roll-TypedExpr, roll-TypedExpr}
use Rattle.mc_typing.specs.OfType.{IsNumeric}
use Rattle.mc_typing.specs.Parts.{node_parts}
use Rattle.mc_typing.specs.Sound.{IsSound, IsSoundNode}
use Rattle.mc_typing.specs.Statements.{and_members, conjuncts, own_members}
use Rattle.mc_typing.proofs.SoundTrees.{sound_here, sound_parts}

pub all_append : {X : Type 0} (P : X → Type 0) (xs ys : List X) → AllByRecursion P xs
    → AllByRecursion P ys → AllByRecursion P (xs ++ ys)
all_append P [] ys h k = k
all_append P (x ∷ xs) ys h k = (h.0, all_append P xs ys h.1 k)

module _ (c : Catalog) (columns aggregates : List Ty) where
  abbrev Sound : TypedExpr → Type 0
  Sound x = IsSound c columns aggregates x

  -- A sound truth value
  abbrev pub IsTruth : TypedExpr → Type 0
  IsTruth x = Sound x × IsNumeric x.ty

  abbrev Members : Type 0
  Members = Option (List TypedExpr)

  abbrev of_expr : TypedExpr-F (Node × Members) (TypedExpr × List TypedExpr) → List TypedExpr
  of_expr e = own_members e.node.0 (record { node = e.node.0; ty = e.ty }) e.node.1

  abbrev members : Node → Members
  members n = para-Node Members (List TypedExpr) and_members of_expr n

  abbrev split : TypedExpr → List TypedExpr
  split x = para-TypedExpr Members (List TypedExpr) and_members of_expr x

  -- The members of an AND are truth values.
  abbrev IsFit : Node-F Node TypedExpr → Type 0
  IsFit (Node-F.And xs) = AllByRecursion IsTruth xs
  IsFit l = Unit {0}

  abbrev GoodNode : Node → Type 0
  GoodNode n = IsFit (out-Node n) → IfSome (members n) (λ xs. AllByRecursion IsTruth xs)

  abbrev GoodExpr : TypedExpr → Type 0
  GoodExpr x = IsTruth x → AllByRecursion IsTruth (split x)

  fit : (ty : Ty) (l : Node-F Node TypedExpr) → IsSoundNode c columns aggregates ty l
      → AllByRecursion Sound (node_parts l) → IsFit l
  fit ty (Node-F.And xs) h parts =
      joined xs parts (recursion_from_All (λ x. IsNumeric x.ty) xs h.1)
    where
      joined : (ys : List TypedExpr) → AllByRecursion Sound ys
          → AllByRecursion (λ x. IsNumeric x.ty) ys → AllByRecursion IsTruth ys
      joined [] s n = tt
      joined (y ∷ ys) s n = ((s.0, n.0), joined ys s.1 n.1)
  fit ty l h parts = tt

  -- A node and an expression, each with what is shown of it.
  abbrev NodeHeld : Type 0
  NodeHeld = (n : Node) × GoodNode n

  abbrev ExprHeld : Type 0
  ExprHeld = (x : TypedExpr) × GoodExpr x

  abbrev Held : Type 0
  Held = Node-F NodeHeld ExprHeld

  abbrev without : Held → Node-F Node TypedExpr
  without y = map-Node NodeHeld ExprHeld Node TypedExpr (λ e. e.0) (λ e. e.0) y

  abbrev beside : Node-F Node TypedExpr → Node-F (Node × Members) (TypedExpr × List TypedExpr)
  beside l = map-Node Node TypedExpr (Node × Members) (TypedExpr × List TypedExpr)
      (λ n. (n, members n)) (λ x. (x, split x)) l

  abbrev Both : Type 0
  Both = TypedExpr × List TypedExpr

  joined_members : (es : List ExprHeld) → AllByRecursion IsTruth (map (λ e. e.0) es)
      → AllByRecursion IsTruth (flat_map (λ (x : Both). x.1)
      (map (λ (x : TypedExpr). (x, split x)) (map (λ e. e.0) es)))
  joined_members [] h = tt
  joined_members (e ∷ es) h = all_append IsTruth (split e.0)
      (flat_map (λ (x : Both). x.1) (map (λ (x : TypedExpr). (x, split x)) (map (λ e. e.0) es)))
      (e.1 h.0) (joined_members es h.1)

  layer_good : (y : Held) → IsFit (without y)
      → IfSome (and_members (beside (without y))) (λ xs. AllByRecursion IsTruth xs)
  layer_good (Node-F.And es) h = joined_members es h
  layer_good y h = tt

  node_step : (l : Node-F Node TypedExpr) (y : Held) → without y ≡ l → GoodNode (roll-Node l)
  node_step l y is h = subst (λ (m : Members). IfSome m (λ xs. AllByRecursion IsTruth xs))
      (sym (para-roll-Node Members (List TypedExpr) and_members of_expr l))
      (subst (λ (z : Node-F Node TypedExpr). IsFit z
      → IfSome (and_members (beside z)) (λ xs. AllByRecursion IsTruth xs))
      is (layer_good y) (subst IsFit (out-roll-Node l) h))

  own_good : (x : TypedExpr) (m : Members) → IsTruth x
      → IfSome m (λ xs. AllByRecursion IsTruth xs) → AllByRecursion IsTruth (own_members x.node x m)
  own_good x None t h = (t, tt)
  own_good x (Some xs) t h = h

  abbrev HeldExpr : Type 0
  HeldExpr = TypedExpr-F NodeHeld ExprHeld

  expr_step : (e : TypedExpr-F Node TypedExpr) (y : HeldExpr)
      → map-TypedExpr NodeHeld ExprHeld Node TypedExpr (λ z. z.0) (λ z. z.0) y ≡ e
      → GoodExpr (roll-TypedExpr e)
  expr_step e y is t =
      let x : TypedExpr = record { node = e.node; ty = e.ty } in
      let good : GoodNode e.node =
      subst (λ (z : TypedExpr-F Node TypedExpr). GoodNode z.node) is y.node.1 in
      let here = sound_here c columns aggregates x t.0 in
      subst (AllByRecursion IsTruth)
      (sym (para-roll-TypedExpr Members (List TypedExpr) and_members of_expr e))
      (own_good x (members e.node) t
      (good (fit e.ty (out-Node e.node) here.1 (sound_parts c columns aggregates x t.0))))

  pub conjuncts_sound : (x : TypedExpr) → IsTruth x → AllByRecursion IsTruth (conjuncts x)
  unfolding conjuncts
  conjuncts_sound x = ind-TypedExpr GoodNode GoodExpr node_step expr_step x
