-- A tree is sound where its node is and each of its operands.
use Rattle.std.proofs.Common.{◌≡◌, List, [], ◌∷◌, None, Some, map, refl, sym, ap}
use Rattle.std.proofs.Common.{subst}
use Rattle.std.proofs.lemmas.List.Elements.{All-from_recursion, recursion_from_All}
use Rattle.std.specs.Prelude.{All}
use Rattle.std.specs.List.{AllByRecursion}
use Rattle.mc_catalog.specs.declared.catalog.Catalog.{Catalog}
use Rattle.mc_typing.specs.declared.typed.Node.{Node, Node-F, out-Node, roll-Node, out-roll-Node}
use Rattle.mc_typing.specs.declared.typed.Node.{roll-out-Node, map-Node, every-Node}
use Rattle.mc_typing.specs.declared.typed.Node.{every_held-Node, every_made-Node}
use Rattle.mc_typing.specs.declared.typed.Ty.{Ty}
use Rattle.mc_typing.specs.declared.typed.TypedExpr.{TypedExpr, TypedExpr-F, every-TypedExpr}
use Rattle.mc_typing.specs.declared.typed.TypedExpr.{every_here-TypedExpr, every_held-TypedExpr}
use Rattle.mc_typing.specs.declared.typed.TypedExpr.{every_made-TypedExpr}
use Rattle.mc_typing.specs.Operands.{IsTyOf}
use Rattle.mc_typing.specs.Parts.{node_parts}
use Rattle.mc_typing.specs.Sound.{IsSound, IsSoundNode}

-- Values with facts about them, and a list of both.
pub paired : {X : Type 0} (P : X → Type 0) (xs : List X) → AllByRecursion P xs
    → (ys : List ((x : X) × P x)) × (map (λ y. y.0) ys ≡ xs)
paired P [] h = ([], refl)
paired P (x ∷ xs) h =
    let rest = paired P xs h.1 in ((x, h.0) ∷ rest.0, ap (λ l. x ∷ l) rest.1)

pub firsts : {X : Type 0} (P : X → Type 0) (ys : List ((x : X) × P x))
    → AllByRecursion P (map (λ y. y.0) ys)
firsts P [] = tt
firsts P (y ∷ ys) = (y.1, firsts P ys)

module _ (c : Catalog) (columns aggregates : List Ty) where
  abbrev OfNode : Node-F Node TypedExpr → Type 0
  OfNode node = Unit {0}

  abbrev OfExpr : TypedExpr-F Node TypedExpr → Type 0
  OfExpr e = IsTyOf c e.ty × IsSoundNode c columns aggregates e.ty (out-Node e.node)

  abbrev Every : TypedExpr → Type 0
  Every x = every-TypedExpr OfNode OfExpr x

  abbrev EveryNode : Node → Type 0
  EveryNode node = every-Node OfNode OfExpr node

  node_made : (l : Node-F Node TypedExpr) → AllByRecursion Every (node_parts l)
      → EveryNode (roll-Node l)
  node_made (Node-F.Const v) h =
      every_made-Node OfNode OfExpr (Node-F.Const v) (Node-F.Const v) refl tt
  node_made (Node-F.Column n) h =
      every_made-Node OfNode OfExpr (Node-F.Column n) (Node-F.Column n) refl tt
  node_made (Node-F.Collate x) h =
      every_made-Node OfNode OfExpr (Node-F.Collate x) (Node-F.Collate (x, h.0)) refl tt
  node_made (Node-F.Compare op coll xs) h =
      let p = paired Every xs h in
      every_made-Node OfNode OfExpr (Node-F.Compare op coll xs) (Node-F.Compare op coll p.0)
      (ap (λ (l : List TypedExpr). Node-F.Compare op coll l) p.1) tt
  node_made (Node-F.Like coll xs escape negated) h =
      let p = paired Every xs h in
      every_made-Node OfNode OfExpr (Node-F.Like coll xs escape negated)
      (Node-F.Like coll p.0 escape negated)
      (ap (λ (l : List TypedExpr). Node-F.Like coll l escape negated) p.1) tt
  node_made (Node-F.In coll xs negated) h =
      let p = paired Every xs h in
      every_made-Node OfNode OfExpr (Node-F.In coll xs negated) (Node-F.In coll p.0 negated)
      (ap (λ (l : List TypedExpr). Node-F.In coll l negated) p.1) tt
  node_made (Node-F.Between coll xs negated) h =
      let p = paired Every xs h in
      every_made-Node OfNode OfExpr (Node-F.Between coll xs negated)
      (Node-F.Between coll p.0 negated)
      (ap (λ (l : List TypedExpr). Node-F.Between coll l negated) p.1) tt
  node_made (Node-F.IsNull x negated) h =
      every_made-Node OfNode OfExpr (Node-F.IsNull x negated) (Node-F.IsNull (x, h.0) negated)
      refl tt
  node_made (Node-F.Not x) h =
      every_made-Node OfNode OfExpr (Node-F.Not x) (Node-F.Not (x, h.0)) refl tt
  node_made (Node-F.Neg x) h =
      every_made-Node OfNode OfExpr (Node-F.Neg x) (Node-F.Neg (x, h.0)) refl tt
  node_made (Node-F.And xs) h =
      let p = paired Every xs h in
      every_made-Node OfNode OfExpr (Node-F.And xs) (Node-F.And p.0)
      (ap (λ (l : List TypedExpr). Node-F.And l) p.1) tt
  node_made (Node-F.Or xs) h =
      let p = paired Every xs h in
      every_made-Node OfNode OfExpr (Node-F.Or xs) (Node-F.Or p.0)
      (ap (λ (l : List TypedExpr). Node-F.Or l) p.1) tt
  node_made (Node-F.Xor xs) h =
      let p = paired Every xs h in
      every_made-Node OfNode OfExpr (Node-F.Xor xs) (Node-F.Xor p.0)
      (ap (λ (l : List TypedExpr). Node-F.Xor l) p.1) tt
  node_made (Node-F.Arith op xs) h =
      let p = paired Every xs h in
      every_made-Node OfNode OfExpr (Node-F.Arith op xs) (Node-F.Arith op p.0)
      (ap (λ (l : List TypedExpr). Node-F.Arith op l) p.1) tt
  node_made (Node-F.Call name uses xs) h =
      let p = paired Every xs h in
      every_made-Node OfNode OfExpr (Node-F.Call name uses xs) (Node-F.Call name uses p.0)
      (ap (λ (l : List TypedExpr). Node-F.Call name uses l) p.1) tt
  node_made (Node-F.NumberText set x) h =
      every_made-Node OfNode OfExpr (Node-F.NumberText set x) (Node-F.NumberText set (x, h.0))
      refl tt
  node_made (Node-F.Convert set x) h =
      every_made-Node OfNode OfExpr (Node-F.Convert set x) (Node-F.Convert set (x, h.0)) refl tt
  node_made (Node-F.Aggregate name distinct None place) h =
      every_made-Node OfNode OfExpr (Node-F.Aggregate name distinct None place)
      (Node-F.Aggregate name distinct None place) refl tt
  node_made (Node-F.Aggregate name distinct (Some x) place) h =
      every_made-Node OfNode OfExpr (Node-F.Aggregate name distinct (Some x) place)
      (Node-F.Aggregate name distinct (Some (x, h.0)) place) refl tt
  node_made (Node-F.WeightString cut x) h =
      every_made-Node OfNode OfExpr (Node-F.WeightString cut x) (Node-F.WeightString cut (x, h.0))
      refl tt

  parts_of : (y : Node-F ((z : Node) × EveryNode z) ((z : TypedExpr) × Every z))
      → AllByRecursion Every (node_parts (map-Node ((z : Node) × EveryNode z)
      ((z : TypedExpr) × Every z) Node TypedExpr (λ e. e.0) (λ e. e.0) y))
  parts_of (Node-F.Const v) = tt
  parts_of (Node-F.Column n) = tt
  parts_of (Node-F.Collate x) = (x.1, tt)
  parts_of (Node-F.Compare op coll xs) = firsts Every xs
  parts_of (Node-F.Like coll xs escape negated) = firsts Every xs
  parts_of (Node-F.In coll xs negated) = firsts Every xs
  parts_of (Node-F.Between coll xs negated) = firsts Every xs
  parts_of (Node-F.IsNull x negated) = (x.1, tt)
  parts_of (Node-F.Not x) = (x.1, tt)
  parts_of (Node-F.Neg x) = (x.1, tt)
  parts_of (Node-F.And xs) = firsts Every xs
  parts_of (Node-F.Or xs) = firsts Every xs
  parts_of (Node-F.Xor xs) = firsts Every xs
  parts_of (Node-F.Arith op xs) = firsts Every xs
  parts_of (Node-F.Call name uses xs) = firsts Every xs
  parts_of (Node-F.NumberText set x) = (x.1, tt)
  parts_of (Node-F.Convert set x) = (x.1, tt)
  parts_of (Node-F.Aggregate name distinct None place) = tt
  parts_of (Node-F.Aggregate name distinct (Some x) place) = (x.1, tt)
  parts_of (Node-F.WeightString cut x) = (x.1, tt)

  node_opened : (n : Node) → EveryNode n → AllByRecursion Every (node_parts (out-Node n))
  node_opened n h =
      let held = every_held-Node OfNode OfExpr n h in
      subst (λ (l : Node-F Node TypedExpr). AllByRecursion Every (node_parts l)) held.1
      (parts_of held.0)

  node_within : (x : TypedExpr) → Every x → EveryNode x.node
  node_within x h =
      let held = every_held-TypedExpr OfNode OfExpr x h in
      subst EveryNode (ap (λ (e : TypedExpr-F Node TypedExpr). e.node) held.1) held.0.node.1

  -- From its node and its operands
  pub sound_made : (l : Node-F Node TypedExpr) (ty : Ty) → IsTyOf c ty
      → IsSoundNode c columns aggregates ty l
      → AllByRecursion (IsSound c columns aggregates) (node_parts l)
      → IsSound c columns aggregates (record { node = roll-Node l; ty = ty })
  unfolding IsSound
  sound_made l ty t h parts =
      every_made-TypedExpr OfNode OfExpr (record { node = roll-Node l; ty = ty })
      (record { node = (roll-Node l, node_made l parts); ty = ty }) refl
      (t, subst (IsSoundNode c columns aggregates ty) (sym (out-roll-Node l)) h)

  -- Its node, and its operands
  pub sound_here : (x : TypedExpr) → IsSound c columns aggregates x
      → IsTyOf c x.ty × IsSoundNode c columns aggregates x.ty (out-Node x.node)
  unfolding IsSound
  sound_here x h = every_here-TypedExpr OfNode OfExpr x h

  pub sound_parts : (x : TypedExpr) → IsSound c columns aggregates x
      → AllByRecursion (IsSound c columns aggregates) (node_parts (out-Node x.node))
  unfolding IsSound
  sound_parts x h = node_opened x.node (node_within x h)

  -- The same over places in the list of operands
  pub sound_all : (x : TypedExpr) → IsSound c columns aggregates x
      → All (IsSound c columns aggregates) (node_parts (out-Node x.node))
  sound_all x h = All-from_recursion (IsSound c columns aggregates) (node_parts (out-Node x.node))
      (sound_parts x h)

  pub sound_again : (x : TypedExpr) → IsTyOf c x.ty
      → IsSoundNode c columns aggregates x.ty (out-Node x.node)
      → All (IsSound c columns aggregates) (node_parts (out-Node x.node))
      → IsSound c columns aggregates x
  sound_again x t h parts =
      subst (λ (n : Node). IsSound c columns aggregates (record { node = n; ty = x.ty }))
      (roll-out-Node x.node)
      (sound_made (out-Node x.node) x.ty t h
      (recursion_from_All (IsSound c columns aggregates) (node_parts (out-Node x.node)) parts))

  -- Its type has a collation of the catalog, and it is sound.
  abbrev pub IsFine : TypedExpr → Type 0
  IsFine x = IsTyOf c x.ty × IsSound c columns aggregates x

  all_sound : (xs : List TypedExpr) → AllByRecursion IsFine xs
      → AllByRecursion (IsSound c columns aggregates) xs
  all_sound [] h = tt
  all_sound (x ∷ xs) h = (h.0.1, all_sound xs h.1)

  pub fine_made : (l : Node-F Node TypedExpr) (ty : Ty) → IsTyOf c ty
      → IsSoundNode c columns aggregates ty l
      → AllByRecursion IsFine (node_parts l) → IsFine (record { node = roll-Node l; ty = ty })
  fine_made l ty t h parts = (t, sound_made l ty t h (all_sound (node_parts l) parts))
