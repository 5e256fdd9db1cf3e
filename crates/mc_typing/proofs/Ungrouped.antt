-- No aggregate stands in a tree that is sound where there are none.
use Rattle.std.proofs.Common.{◌≡◌, Bool, true, false, List, [], ◌∷◌, ◌++◌, None, Some, map, refl}
use Rattle.std.proofs.Common.{ap, sym, ◌∙◌}
use Rattle.std.specs.List.{AllByRecursion, flat_map}
use Rattle.std.proofs.lemmas.List.Elements.{All-from_recursion, recursion_from_All}
use Rattle.mc_catalog.specs.declared.catalog.Catalog.{Catalog}
use Rattle.mc_typing.specs.declared.typed.Node.{Node, Node-F, out-Node, map-Node, fold-Node}
use Rattle.mc_typing.specs.declared.typed.Node.{fold_out-Node}
use Rattle.mc_typing.specs.declared.typed.Ty.{Ty}
use Rattle.mc_typing.specs.declared.typed.TypedExpr.{TypedExpr, TypedExpr-F, fold_out-TypedExpr}
use Rattle.mc_typing.specs.Parts.{node_parts}
use Rattle.mc_typing.specs.Sound.{IsSound, IsSoundNode}
use Rattle.mc_typing.specs.AggregateTypes.{aggregate_types, is_aggregate_node, types_with}
use Rattle.mc_typing.proofs.SoundInduction.{mapped_parts, sound_induction}
use Rattle.mc_typing.proofs.SoundTrees.{sound_again, sound_here}

mapped_aggregate : {X A Y B : Type 0} (f : X → Y) (g : A → B) (l : Node-F X A)
    → is_aggregate_node (map-Node X A Y B f g l) ≡ is_aggregate_node l
mapped_aggregate f g (Node-F.Const v) = refl
mapped_aggregate f g l = refl

pub flat_mapped : {A B C : Type 0} (f : B → List C) (g : A → B) (xs : List A)
    → flat_map f (map g xs) ≡ flat_map (λ x. f (g x)) xs
flat_mapped f g [] = refl
flat_mapped f g (x ∷ xs) = ap (λ ys. f (g x) ++ ys) (flat_mapped f g xs)

-- The aggregates of an expression, of its operands first
abbrev Told : Type 0
Told = Bool × List Ty

abbrev told : Node-F Told (List Ty) → Told
told l = (is_aggregate_node l, flat_map (λ types. types) (node_parts l))

abbrev with_own : TypedExpr-F Told (List Ty) → List Ty
with_own e = types_with e.node.0 e.node.1 e.ty

abbrev told_node : Node → Told
told_node n = fold-Node Told (List Ty) told with_own n

abbrev replaced : Node-F Node TypedExpr → Node-F Told (List Ty)
replaced l = map-Node Node TypedExpr Told (List Ty) told_node aggregate_types l

pub aggregate_types_is : (x : TypedExpr) → aggregate_types x
    ≡ types_with (is_aggregate_node (out-Node x.node))
    (flat_map aggregate_types (node_parts (out-Node x.node))) x.ty
unfolding aggregate_types
aggregate_types_is x =
    let l = out-Node x.node in
    fold_out-TypedExpr Told (List Ty) told with_own x
    ∙ (ap (λ (t : Told). types_with t.0 t.1 x.ty)
    (fold_out-Node Told (List Ty) told with_own x.node)
    ∙ (ap (λ b. types_with b (flat_map (λ types. types) (node_parts (replaced l))) x.ty)
    (mapped_aggregate told_node aggregate_types l)
    ∙ ap (λ types. types_with (is_aggregate_node l) types x.ty)
    (ap (flat_map (λ types. types)) (mapped_parts told_node aggregate_types l)
    ∙ flat_mapped (λ types. types) aggregate_types (node_parts l))))

none_here : (c : Catalog) (columns : List Ty) (ty : Ty) (l : Node-F Node TypedExpr)
    → IsSoundNode c columns [] ty l → is_aggregate_node l ≡ false
none_here c columns ty (Node-F.Aggregate name distinct arg place) h =
    absurd (let e : None ≡ Some ty = h.0 in cc)
none_here c columns ty l h = refl

none_of : (xs : List TypedExpr) → AllByRecursion (λ x. aggregate_types x ≡ []) xs
    → flat_map aggregate_types xs ≡ []
none_of [] h = refl
none_of (x ∷ xs) h = rw (h.0, none_of xs h.1) refl

pub none_in : (c : Catalog) (columns : List Ty) (x : TypedExpr) → IsSound c columns [] x
    → aggregate_types x ≡ []
none_in c columns = sound_induction c columns [] (λ x. aggregate_types x ≡ []) (λ x h parts.
    aggregate_types_is x
    ∙ rw (
      none_here c columns x.ty (out-Node x.node) (sound_here c columns [] x h).1,
      none_of (node_parts (out-Node x.node))
          (recursion_from_All (λ (y : TypedExpr). aggregate_types y ≡ [])
          (node_parts (out-Node x.node)) parts),
    )
    refl)

-- Without aggregates an expression is sound over any.

no_more : (b : Bool) (types : List Ty) (ty : Ty) → types_with b types ty ≡ []
    → (b ≡ false) × (types ≡ [])
no_more false types ty e = (refl, e)
no_more true [] ty e = absurd (cc)
no_more true (t ∷ types) ty e = absurd (cc)

none_each : (xs : List TypedExpr) → flat_map aggregate_types xs ≡ []
    → AllByRecursion (λ x. aggregate_types x ≡ []) xs
none_each [] e = tt
none_each (x ∷ xs) e = let parted = none_both (aggregate_types x) (flat_map aggregate_types xs) e in
    (parted.0, none_each xs parted.1)
  where
    none_both : (types others : List Ty) → types ++ others ≡ [] → (types ≡ []) × (others ≡ [])
    none_both [] others d = (refl, d)
    none_both (t ∷ types) others d = absurd (cc)

same_node : (c : Catalog) (columns aggregates others : List Ty) (ty : Ty)
    (l : Node-F Node TypedExpr) → is_aggregate_node l ≡ false
    → IsSoundNode c columns aggregates ty l → IsSoundNode c columns others ty l
same_node c columns aggregates others ty (Node-F.Aggregate name distinct arg place) e h =
    absurd (cc)
same_node c columns aggregates others ty l e h = h

held : (c : Catalog) (columns others : List Ty) (xs : List TypedExpr)
    → AllByRecursion (λ x. aggregate_types x ≡ [] → IsSound c columns others x) xs
    → AllByRecursion (λ x. aggregate_types x ≡ []) xs
    → AllByRecursion (IsSound c columns others) xs
held c columns others [] h k = tt
held c columns others (x ∷ xs) h k = (h.0 k.0, held c columns others xs h.1 k.1)

pub sound_any : (c : Catalog) (columns aggregates others : List Ty) (x : TypedExpr)
    → IsSound c columns aggregates x → aggregate_types x ≡ [] → IsSound c columns others x
sound_any c columns aggregates others = sound_induction c columns aggregates
    (λ x. aggregate_types x ≡ [] → IsSound c columns others x) (λ x h parts none.
    let l = out-Node x.node in
    let here = sound_here c columns aggregates x h in
    let no = no_more (is_aggregate_node l) (flat_map aggregate_types (node_parts l)) x.ty
    (sym (aggregate_types_is x) ∙ none) in
    sound_again c columns others x here.0
    (same_node c columns aggregates others x.ty l no.0 here.1)
    (All-from_recursion (IsSound c columns others) (node_parts l)
    (held c columns others (node_parts l)
    (recursion_from_All (λ (y : TypedExpr). aggregate_types y ≡ [] → IsSound c columns others y)
    (node_parts l) parts)
    (none_each (node_parts l) no.1))))
