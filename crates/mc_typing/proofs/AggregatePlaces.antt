-- The places of the aggregates of an expression: those of its operands, then its own.
use Rattle.std.proofs.Common.{◌≡◌, ℕ, zero, suc, ◌+◌, List, ◌∷◌, ◌++◌, refl, ap, ◌∙◌, arith}
use Rattle.std.specs.List.{flat_map, range_with_len}
use Rattle.mc_typing.specs.declared.typed.Node.{Node, Node-F, out-Node, map-Node, fold-Node}
use Rattle.mc_typing.specs.declared.typed.Node.{fold_out-Node}
use Rattle.mc_typing.specs.declared.typed.TypedExpr.{TypedExpr, TypedExpr-F, fold_out-TypedExpr}
use Rattle.mc_typing.specs.Parts.{node_parts}
use Rattle.mc_typing.specs.AggregatePlaces.{aggregate_places, own_places}
use Rattle.mc_typing.proofs.SoundInduction.{mapped_parts}
use Rattle.mc_typing.proofs.Ungrouped.{flat_mapped}

mapped_places : {X A Y B : Type 0} (f : X → Y) (g : A → B) (l : Node-F X A)
    → own_places (map-Node X A Y B f g l) ≡ own_places l
mapped_places f g (Node-F.Aggregate name distinct arg place) = refl
mapped_places f g l = refl

abbrev placed : Node-F (List ℕ) (List ℕ) → List ℕ
placed l = flat_map (λ places. places) (node_parts l) ++ own_places l

abbrev of_node : TypedExpr-F (List ℕ) (List ℕ) → List ℕ
of_node e = e.node

abbrev node_places : Node → List ℕ
node_places n = fold-Node (List ℕ) (List ℕ) placed of_node n

abbrev replaced : Node-F Node TypedExpr → Node-F (List ℕ) (List ℕ)
replaced l = map-Node Node TypedExpr (List ℕ) (List ℕ) node_places aggregate_places l

pub aggregate_places_is : (x : TypedExpr) → aggregate_places x
    ≡ flat_map aggregate_places (node_parts (out-Node x.node)) ++ own_places (out-Node x.node)
unfolding aggregate_places
aggregate_places_is x =
    let l = out-Node x.node in
    fold_out-TypedExpr (List ℕ) (List ℕ) placed of_node x
    ∙ (fold_out-Node (List ℕ) (List ℕ) placed of_node x.node
    ∙ (ap (λ own. flat_map (λ places. places) (node_parts (replaced l)) ++ own)
    (mapped_places node_places aggregate_places l)
    ∙ ap (λ places. places ++ own_places l)
    (ap (flat_map (λ places. places)) (mapped_parts node_places aggregate_places l)
    ∙ flat_mapped (λ places. places) aggregate_places (node_parts l))))

-- Numbers that go on
pub numbers_append : (a n m : ℕ)
    → range_with_len a n ++ range_with_len (a + n) m ≡ range_with_len a (n + m)
numbers_append a zero m =
    let same : a + 0 ≡ a = omega arith in
    let none : m ≡ 0 + m = omega arith in
    ap (λ b. range_with_len b m) same ∙ ap (range_with_len a) none
numbers_append a (suc n) m =
    let same : a + suc n ≡ (a + 1) + n = omega arith in
    let more : suc (n + m) ≡ suc n + m = omega arith in
    ap (λ b. a ∷ range_with_len (a + 1) n ++ range_with_len b m) same
    ∙ (ap (λ l. a ∷ l) (numbers_append (a + 1) n m) ∙ ap (range_with_len a) more)
