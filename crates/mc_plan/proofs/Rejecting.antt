-- An expression that is a condition on the column rejects the rows that do not meet it.
use Rattle.std.proofs.Common.{◌≡◌, ℕ, Bool, true, false, List, [], ◌∷◌, Some, None, map, refl, sym}
use Rattle.std.proofs.Common.{ap, subst, ◌∙◌, inl, inr}
use Rattle.std.proofs.lemmas.Bool.{eqb-true}
use Rattle.std.proofs.lemmas.Option.{option_and_then_some}
use Rattle.std.specs.Prelude.{◌⊎◌, Option, option_and_then, option_map}
use Rattle.std.specs.Option.{option_map_or}
use Rattle.std.specs.Prelude.{if◌then◌else◌}
use Rattle.mc_ast.specs.declared.operators.CmpOp.{CmpOp}
use Rattle.mc_ast.specs.declared.operators.CmpOp.TheVariants as op
use Rattle.mc_charset.specs.declared.collation_id.CollId.{CollId}
use Rattle.mc_order.specs.Meaning.{Meaning}
use Rattle.mc_range.specs.declared.condition.Cell.{Cell}
use Rattle.mc_range.specs.declared.condition.Cond.{Cond}
use Rattle.mc_range.specs.declared.condition.Cond.TheVariants as cond
use Rattle.mc_typing.specs.declared.typed.Node.{Node, Node-F, out-Node}
use Rattle.mc_typing.specs.declared.typed.TypedExpr.{TypedExpr}
use Rattle.mc_values.specs.declared.value.Value.{Value}
use Rattle.mc_eval.specs.Acceptance.{firm}
use Rattle.mc_eval.specs.Comparisons.{compared}
use Rattle.mc_eval.specs.Matches.{liked}
use Rattle.mc_eval.specs.Node.{Place, among, outcomes, within_ends}
use Rattle.mc_eval.specs.Outcomes.{Outcome, of_all, of_two, all_given}
use Rattle.mc_eval.specs.Outcomes.Outcome.{fault, gives}
use Rattle.mc_eval.specs.Truths.{all_of, any_of, told, truth, turned}
use Rattle.mc_eval.specs.Value.{value as value_of, valued}
use Rattle.mc_eval.specs.declared.truth.Truth.{Truth}
use Rattle.mc_plan.specs.Conds.{between_cond, compare_cond, cond_of, in_cond, is_by, is_column}
use Rattle.mc_plan.specs.Conds.{like_cond, mirrored, node_cond, op_cond}
use Rattle.mc_plan.specs.Constants.{cell, cells}
use Rattle.mc_plan.specs.Entries.{value_at}
use Rattle.mc_plan.specs.Rejects.{IsMetBy, IsOfSet, IsRejected, RejectsOthers}
use Rattle.mc_plan.proofs.Compared.{Laws, left, like, right, within}
use Rattle.mc_plan.proofs.Members.{cell_is, cells_given, equal_none, map_some}
use Rattle.mc_plan.proofs.Members.{met_in}
use Rattle.mc_plan.proofs.Truths.{Rejects, none_of, truth_told}
use Rattle.mc_plan.proofs.Values.{column_is, value_is}

if_some : {A : Type 0} (b : Bool) (o : Option A) (y : A) → (if b then o else None) ≡ Some y
    → (b ≡ true) × (o ≡ Some y)
if_some true o y h = (refl, h)
if_some false o y h = absurd (cc)

if_either : {A : Type 0} (b : Bool) (o r : Option A) (y : A) → (if b then o else r) ≡ Some y
    → ((b ≡ true) × (o ≡ Some y)) ⊎ (r ≡ Some y)
if_either true o r y h = inl (refl, h)
if_either false o r y h = inr h

by_is : (coll : CollId) (used : Option CollId) → is_by coll used ≡ true → used ≡ Some coll
by_is coll None h = absurd (cc)
by_is coll (Some id) h = ap (λ n. Some (record { 0 = n })) (eqb-true id.0 coll.0 h)

module _ (laws : Laws) (p : Place) (column : ℕ) (coll : CollId) (it : Cond) where
  abbrev m : Meaning
  m = p.meaning coll.0

  abbrev x : Value
  x = value_at p.row column

  module _ (h : IsOfSet m.charset x) (n : IsMetBy m it x → ⊥) where
    -- The truth value that is told of an operation on two operands.
    pair_rejects : (op : Value → Value → Truth) (o q : Outcome) (a b : Value) → o ≡ gives a
        → q ≡ gives b → Rejects (op a b) → Rejects (truth (of_two (λ v w. told (op v w)) o q))
    pair_rejects op o q a b i j r =
        ap (λ z. firm (truth (of_two (λ v w. told (op v w)) z q))) i
        ∙ (ap (λ z. firm (truth (of_two (λ v w. told (op v w)) (gives a) z))) j
        ∙ (ap firm (truth_told (op a b)) ∙ r))

    of_column : (op : CmpOp) (a b : TypedExpr) → is_column column a ≡ true
        → option_and_then (op_cond op) (cell m.charset b) ≡ Some it
        → Rejects (truth (of_two (λ v w. told (compared p.meaning (Some coll) op v w))
        (value_of p a) (value_of p b)))
    of_column op a b i q = option_and_then_some (op_cond op) (cell m.charset b) it q
        (λ c is f. let held = cell_is p m.charset b c is in
        pair_rejects (compared p.meaning (Some coll) op) (value_of p a) (value_of p b) x held.held
        (column_is p a column i) held.outcome
        (left laws p.meaning coll op x held.held c it h held.same f n))

    of_constant : (op : CmpOp) (a b : TypedExpr) → is_column column b ≡ true
        → option_and_then (op_cond (mirrored op)) (cell m.charset a) ≡ Some it
        → Rejects (truth (of_two (λ v w. told (compared p.meaning (Some coll) op v w))
        (value_of p a) (value_of p b)))
    of_constant op a b i q = option_and_then_some (op_cond (mirrored op)) (cell m.charset a) it q
        (λ c is f. let held = cell_is p m.charset a c is in
        pair_rejects (compared p.meaning (Some coll) op) (value_of p a) (value_of p b) held.held x
        held.outcome (column_is p b column i)
        (right laws p.meaning coll op x held.held c it h held.same f n))

    of_compare : (op : CmpOp) (a b : TypedExpr)
        → compare_cond m.charset column op (a ∷ b ∷ []) ≡ Some it
        → Rejects (truth (of_two (λ v w. told (compared p.meaning (Some coll) op v w))
        (value_of p a) (value_of p b)))
    of_compare op a b q = elim (if_either (is_column column a) _ _ it q) [
      | inl l ↦ of_column op a b l.0 l.1
      | inr r ↦
          let s = if_some (is_column column b)
          (option_and_then (op_cond (mirrored op)) (cell m.charset a)) it r in
          of_constant op a b s.0 s.1
    ]

    of_like : (escape : Option ℕ) (a b : TypedExpr)
        → like_cond m.charset column escape (a ∷ b ∷ []) ≡ Some it
        → Rejects (truth (of_two (λ v w. told (liked p.meaning (Some coll) escape v w))
        (value_of p a) (value_of p b)))
    of_like escape a b q =
        let s = if_some (is_column column a)
        (option_map (λ pattern. cond.Like pattern escape) (cell m.charset b)) it q in
        let c = map_some (λ pattern. cond.Like pattern escape) (cell m.charset b) it s.1 in
        let held = cell_is p m.charset b c.0 c.1 in
        pair_rejects (liked p.meaning (Some coll) escape) (value_of p a) (value_of p b) x held.held
        (column_is p a column s.0) held.outcome
        (like laws p.meaning coll escape x held.held c.0 h held.same
        (subst (λ i. IsMetBy m i x → ⊥) (sym c.2) n))

    of_between : (a b d : TypedExpr) → between_cond m.charset column (a ∷ b ∷ d ∷ []) ≡ Some it
        → Rejects (within_ends p.meaning (Some coll) (value_of p a) (value_of p b) (value_of p d))
    of_between a b d q =
        let f = λ (lo : Cell). option_map (λ hi. cond.Between lo hi) (cell m.charset d) in
        let s = if_some (is_column column a) (option_and_then f (cell m.charset b)) it q in
        option_and_then_some f (cell m.charset b) it s.1 (λ lo is f.
        let hi = map_some (λ hi. cond.Between lo hi) (cell m.charset d) it f in
        let low = cell_is p m.charset b lo is in
        let high = cell_is p m.charset d hi.0 hi.1 in
        let ends = within_ends p.meaning (Some coll) in
        let ge = compared p.meaning (Some coll) op.Ge x low.held in
        let le = compared p.meaning (Some coll) op.Le x high.held in
        ap (λ z. firm (ends z (value_of p b) (value_of p d))) (column_is p a column s.0)
        ∙ (ap (λ z. firm (ends (gives x) z (value_of p d))) low.outcome
        ∙ (ap (λ z. firm (ends (gives x) (gives low.held) z)) high.outcome
        ∙ (ap (λ t. firm (all_of (t ∷ truth (told le) ∷ []))) (truth_told ge)
        ∙ (ap (λ t. firm (all_of (ge ∷ t ∷ []))) (truth_told le)
        ∙ within laws p.meaning coll x low.held high.held lo hi.0 h low.same high.same
        (subst (λ i. IsMetBy m i x → ⊥) (sym hi.2) n))))))

    of_in : (a : TypedExpr) (bs : List TypedExpr)
        → in_cond m.charset column (a ∷ bs) ≡ Some it
        → Rejects (truth (of_all (λ values. told (turned false
        (among p.meaning (Some coll) values))) (outcomes (map (valued p) (a ∷ bs)))))
    of_in a bs q =
        let s = if_some (is_column column a) (option_map cond.In (cells m.charset bs)) it q in
        let cs = map_some cond.In (cells m.charset bs) it s.1 in
        let given = cells_given p m.charset bs cs.0 cs.1 in
        let found = λ (values : List Value). told (turned false
        (among p.meaning (Some coll) values)) in
        let rest = outcomes (map (valued p) bs) in
        let all : all_given (value_of p a ∷ rest) ≡ Some (x ∷ given.values) =
        ap (λ z. all_given (z ∷ rest)) (column_is p a column s.0)
        ∙ ap (option_map (λ values. x ∷ values)) given.given in
        let truths = map (compared p.meaning (Some coll) op.Eq x) given.values in
        ap (λ z. firm (truth (option_map_or found z fault))) all
        ∙ (ap firm (truth_told (any_of truths))
        ∙ none_of truths (equal_none laws p.meaning coll x given.values cs.0 h given.each
        (λ c k met. n (subst (λ i. IsMetBy m i x) cs.2 (met_in m x cs.0 c k met)))))

    compare_rejects : (e : TypedExpr) (op : CmpOp) (used : Option CollId) (xs : List TypedExpr)
        → out-Node e.node ≡ Node-F.Compare op used xs → is_by coll used ≡ true
        → compare_cond m.charset column op xs ≡ Some it → IsRejected p e
    compare_rejects e op used [] k i q = absurd (cc)
    compare_rejects e op used (a ∷ []) k i q = absurd (cc)
    compare_rejects e op used (a ∷ b ∷ []) k i q =
        ap (λ o. firm (truth o)) (value_is p e (Node-F.Compare op used (a ∷ b ∷ [])) k)
        ∙ (ap (λ u. firm (truth (of_two (λ v w. told (compared p.meaning u op v w)) (value_of p a)
        (value_of p b)))) (by_is coll used i) ∙ of_compare op a b q)
    compare_rejects e op used (a ∷ b ∷ d ∷ xs) k i q = absurd (cc)

    like_rejects : (e : TypedExpr) (used : Option CollId) (xs : List TypedExpr) (escape : Option ℕ)
        → out-Node e.node ≡ Node-F.Like used xs escape false → is_by coll used ≡ true
        → like_cond m.charset column escape xs ≡ Some it → IsRejected p e
    like_rejects e used [] escape k i q = absurd (cc)
    like_rejects e used (a ∷ []) escape k i q = absurd (cc)
    like_rejects e used (a ∷ b ∷ []) escape k i q =
        ap (λ o. firm (truth o)) (value_is p e (Node-F.Like used (a ∷ b ∷ []) escape false) k)
        ∙ (ap (λ u. firm (truth (of_two (λ v w. told (liked p.meaning u escape v w)) (value_of p a)
        (value_of p b)))) (by_is coll used i) ∙ of_like escape a b q)
    like_rejects e used (a ∷ b ∷ d ∷ xs) escape k i q = absurd (cc)

    between_rejects : (e : TypedExpr) (used : Option CollId) (xs : List TypedExpr)
        → out-Node e.node ≡ Node-F.Between used xs false → is_by coll used ≡ true
        → between_cond m.charset column xs ≡ Some it → IsRejected p e
    between_rejects e used [] k i q = absurd (cc)
    between_rejects e used (a ∷ []) k i q = absurd (cc)
    between_rejects e used (a ∷ b ∷ []) k i q = absurd (cc)
    between_rejects e used (a ∷ b ∷ d ∷ []) k i q =
        ap (λ o. firm (truth o)) (value_is p e (Node-F.Between used (a ∷ b ∷ d ∷ []) false) k)
        ∙ (ap firm (truth_told (within_ends p.meaning used (value_of p a) (value_of p b)
        (value_of p d)))
        ∙ (ap (λ u. firm (within_ends p.meaning u (value_of p a) (value_of p b) (value_of p d)))
        (by_is coll used i) ∙ of_between a b d q))
    between_rejects e used (a ∷ b ∷ d ∷ f ∷ xs) k i q = absurd (cc)

    in_rejects : (e : TypedExpr) (used : Option CollId) (xs : List TypedExpr)
        → out-Node e.node ≡ Node-F.In used xs false → is_by coll used ≡ true
        → in_cond m.charset column xs ≡ Some it → IsRejected p e
    in_rejects e used [] k i q = absurd (cc)
    in_rejects e used (a ∷ bs) k i q =
        ap (λ o. firm (truth o)) (value_is p e (Node-F.In used (a ∷ bs) false) k)
        ∙ (ap (λ u. firm (truth (of_all (λ values. told (turned false
        (among p.meaning u values))) (outcomes (map (valued p) (a ∷ bs))))))
        (by_is coll used i) ∙ of_in a bs q)

    node_rejects : (e : TypedExpr) (node : Node-F Node TypedExpr) → out-Node e.node ≡ node
        → node_cond m.charset column coll node ≡ Some it → IsRejected p e
    node_rejects e (Node-F.Compare op used xs) k q =
        let s = if_some (is_by coll used) (compare_cond m.charset column op xs) it q in
        compare_rejects e op used xs k s.0 s.1
    node_rejects e (Node-F.Like used xs escape false) k q =
        let s = if_some (is_by coll used) (like_cond m.charset column escape xs) it q in
        like_rejects e used xs escape k s.0 s.1
    node_rejects e (Node-F.Between used xs false) k q =
        let s = if_some (is_by coll used) (between_cond m.charset column xs) it q in
        between_rejects e used xs k s.0 s.1
    node_rejects e (Node-F.In used xs false) k q =
        let s = if_some (is_by coll used) (in_cond m.charset column xs) it q in
        in_rejects e used xs k s.0 s.1
    node_rejects e node k q = absurd (cc)

pub rejects_others : (laws : Laws) (p : Place) (column : ℕ) (coll : CollId) (e : TypedExpr)
    (it : Cond) → RejectsOthers p column coll e it
unfolding cond_of
rejects_others laws p column coll e it q h n =
    node_rejects laws p column coll it h n e (out-Node e.node) refl q
