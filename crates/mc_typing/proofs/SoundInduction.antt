-- What holds of each sound tree, where it holds of a tree whenever it holds of its operands.
use Rattle.std.proofs.Common.{◌≡◌, List, [], ◌∷◌, None, Some, map, refl, sym, ap, ◌∙◌, subst}
use Rattle.std.specs.Prelude.{All}
use Rattle.std.specs.List.{AllByRecursion}
use Rattle.std.proofs.lemmas.List.Elements.{All-from_recursion}
use Rattle.mc_catalog.specs.declared.catalog.Catalog.{Catalog}
use Rattle.mc_typing.specs.declared.typed.Node.{Node, Node-F, out-Node, roll-Node, out-roll-Node}
use Rattle.mc_typing.specs.declared.typed.Node.{map-Node}
use Rattle.mc_typing.specs.declared.typed.Ty.{Ty}
use Rattle.mc_typing.specs.declared.typed.TypedExpr.{TypedExpr, TypedExpr-F, ind-TypedExpr}
use Rattle.mc_typing.specs.declared.typed.TypedExpr.{map-TypedExpr, roll-TypedExpr}
use Rattle.mc_typing.specs.Parts.{node_parts}
use Rattle.mc_typing.specs.Sound.{IsSound}
use Rattle.mc_typing.proofs.SoundTrees.{sound_parts}

-- The operands of a node whose operands are replaced
pub mapped_parts : {X A Y B : Type 0} (f : X → Y) (g : A → B) (l : Node-F X A)
    → node_parts (map-Node X A Y B f g l) ≡ map g (node_parts l)
mapped_parts f g (Node-F.Aggregate name distinct None place) = refl
mapped_parts f g (Node-F.Aggregate name distinct (Some x) place) = refl
mapped_parts f g l = refl

module _ (c : Catalog) (columns aggregates : List Ty) (P : TypedExpr → Type 0)
    (step : (x : TypedExpr) → IsSound c columns aggregates x
    → All P (node_parts (out-Node x.node)) → P x) where
  abbrev Sound : TypedExpr → Type 0
  Sound x = IsSound c columns aggregates x

  abbrev Holds : TypedExpr → Type 0
  Holds x = Sound x → P x

  abbrev HoldsIn : Node → Type 0
  HoldsIn n = AllByRecursion Sound (node_parts (out-Node n))
      → AllByRecursion P (node_parts (out-Node n))

  abbrev NodeHeld : Type 0
  NodeHeld = (n : Node) × HoldsIn n

  abbrev ExprHeld : Type 0
  ExprHeld = (x : TypedExpr) × Holds x

  each : (ys : List ExprHeld) → AllByRecursion Sound (map (λ y. y.0) ys)
      → AllByRecursion P (map (λ y. y.0) ys)
  each [] h = tt
  each (y ∷ ys) h = (y.1 h.0, each ys h.1)

  node_step : (l : Node-F Node TypedExpr) (y : Node-F NodeHeld ExprHeld)
      → map-Node NodeHeld ExprHeld Node TypedExpr (λ e. e.0) (λ e. e.0) y ≡ l
      → HoldsIn (roll-Node l)
  node_step l y is h =
      let whole : node_parts (out-Node (roll-Node l)) ≡ map (λ e. e.0) (node_parts y) =
      ap (λ (m : Node-F Node TypedExpr). node_parts m) (out-roll-Node l ∙ sym is)
      ∙ mapped_parts {X = NodeHeld} {A = ExprHeld} {Y = Node} {B = TypedExpr}
      (λ e. e.0) (λ e. e.0) y in
      subst (AllByRecursion P) (sym whole)
      (each (node_parts y) (subst (AllByRecursion Sound) whole h))

  expr_step : (x : TypedExpr-F Node TypedExpr) (y : TypedExpr-F NodeHeld ExprHeld)
      → map-TypedExpr NodeHeld ExprHeld Node TypedExpr (λ e. e.0) (λ e. e.0) y ≡ x
      → Holds (roll-TypedExpr x)
  expr_step x y is h =
      let inside = subst (λ (z : TypedExpr-F Node TypedExpr). HoldsIn z.node) is y.node.1 in
      step (roll-TypedExpr x) h
      (All-from_recursion P (node_parts (out-Node x.node))
      (inside (sound_parts c columns aggregates (roll-TypedExpr x) h)))

  pub sound_induction : (x : TypedExpr) → IsSound c columns aggregates x → P x
  sound_induction x h = ind-TypedExpr HoldsIn Holds node_step expr_step x h
