-- What an expression is over its operands.
use Rattle.std.proofs.Common.{◌≡◌, ℕ, Bool, true, false, ◌&&◌, ◌||◌, All, IsTrue, List, [], ◌∷◌}
use Rattle.std.proofs.Common.{map, refl, sym, ap, ◌∙◌}
use Rattle.std.proofs.lemmas.Bool.{and_from, and_parts, or_parts}
use Rattle.std.proofs.lemmas.List.Elements.{All-from_recursion}
use Rattle.std.specs.List.{AllByRecursion, list_all, list_any}
use Rattle.mc_typing.specs.declared.typed.Node.{Node, Node-F, out-Node, map-Node, fold-Node}
use Rattle.mc_typing.specs.declared.typed.Node.{fold_out-Node}
use Rattle.mc_typing.specs.declared.typed.Ty.{Ty}
use Rattle.mc_typing.specs.declared.typed.TypedExpr.{TypedExpr, fold_out-TypedExpr}
use Rattle.mc_values.specs.declared.value.Value.TheVariants as value
use Rattle.mc_eval.specs.Fit.{fits, has_like, is_like, itself_fits, type_fits}
use Rattle.mc_eval.specs.Functions.{called}
use Rattle.mc_eval.specs.Layers.{operands}
use Rattle.mc_eval.specs.Node.{Place, Valued, among, node_value}
use Rattle.mc_eval.specs.Outcomes.{Outcome, of_all, of_one}
use Rattle.mc_eval.specs.Outcomes.Outcome.{gives}
use Rattle.mc_eval.specs.Shapes.{pair_of, parts_of, triple_of}
use Rattle.mc_eval.specs.Truths.{all_of, any_of, told, truth, turned}
use Rattle.mc_eval.specs.Value.{value, valued}
use Rattle.mc_eval.specs.Walk.{DoFit, HasFitType, HasKeptConstant, HasValue, HaveNoLike}
use Rattle.mc_eval.specs.Weights.{weighed}
use Rattle.mc_eval.specs.declared.truth.Truth.TheVariants.{Unknown}
use Rattle.mc_eval.proofs.Loops.{mapped}

-- The value of an expression

abbrev pub value_of_node : Place → Node → Ty → Outcome
value_of_node p n = fold-Node (Ty → Outcome) Valued (node_value p)
    (λ x. record { ty = x.ty; outcome = x.node x.ty }) n

-- A layer, with what comes of its operands in their places.
abbrev pub over : Place → Node-F Node TypedExpr → Node-F (Ty → Outcome) Valued
over p node = map-Node Node TypedExpr (Ty → Outcome) Valued (value_of_node p) (valued p) node

expr_is : (p : Place) (e : TypedExpr)
    → valued p e ≡ record { ty = e.ty; outcome = value_of_node p e.node e.ty }
unfolding valued
expr_is p e = fold_out-TypedExpr (Ty → Outcome) Valued (node_value p)
    (λ x. record { ty = x.ty; outcome = x.node x.ty }) e

node_is : (p : Place) (n : Node) → value_of_node p n ≡ node_value p (over p (out-Node n))
unfolding valued
node_is p n = fold_out-Node (Ty → Outcome) Valued (node_value p)
    (λ x. record { ty = x.ty; outcome = x.node x.ty }) n

pub value_is : (p : Place) (e : TypedExpr) (node : Node-F Node TypedExpr) → out-Node e.node ≡ node
    → value p e ≡ node_value p (over p node) e.ty
value_is p e node h = ap (λ v. v.outcome) (expr_is p e) ∙ ap (λ f. f e.ty) (node_is p e.node)
    ∙ ap (λ l. node_value p (over p l) e.ty) h

pub type_is : (p : Place) (e : TypedExpr) → (valued p e).ty ≡ e.ty
type_is p e = ap (λ v. v.ty) (expr_is p e)

turned_unknown : (turn : Bool) → told (turned turn Unknown) ≡ gives value.Null
turned_unknown true = refl
turned_unknown false = refl

pub has_value : (p : Place) (e : TypedExpr) (node : Node-F Node TypedExpr) → out-Node e.node ≡ node
    → HasValue p e node (parts_of node)
has_value p e (Node-F.Const it) h = value_is p e _ h
has_value p e (Node-F.Column place) h = value_is p e _ h
has_value p e (Node-F.Collate x) h = value_is p e _ h
has_value p e (Node-F.Compare op coll []) h = value_is p e _ h
has_value p e (Node-F.Compare op coll (x ∷ [])) h = value_is p e _ h
has_value p e (Node-F.Compare op coll (x ∷ y ∷ [])) h = value_is p e _ h
has_value p e (Node-F.Compare op coll (x ∷ y ∷ z ∷ xs)) h = value_is p e _ h
has_value p e (Node-F.Like coll [] escape negated) h = value_is p e _ h
has_value p e (Node-F.Like coll (x ∷ []) escape negated) h = value_is p e _ h
has_value p e (Node-F.Like coll (x ∷ y ∷ []) escape negated) h = value_is p e _ h
has_value p e (Node-F.Like coll (x ∷ y ∷ z ∷ xs) escape negated) h = value_is p e _ h
has_value p e (Node-F.In coll xs negated) h = value_is p e _ h
    ∙ ap (of_all (λ values. told (turned negated (among p.meaning coll values))))
    (mapped (valued p) (λ x. x.outcome) xs)
has_value p e (Node-F.Between coll [] negated) h = value_is p e _ h ∙ turned_unknown negated
has_value p e (Node-F.Between coll (x ∷ []) negated) h = value_is p e _ h ∙ turned_unknown negated
has_value p e (Node-F.Between coll (x ∷ y ∷ []) negated) h =
    value_is p e _ h ∙ turned_unknown negated
has_value p e (Node-F.Between coll (x ∷ y ∷ z ∷ []) negated) h = value_is p e _ h
has_value p e (Node-F.Between coll (x ∷ y ∷ z ∷ w ∷ xs) negated) h =
    value_is p e _ h ∙ turned_unknown negated
has_value p e (Node-F.IsNull x negated) h = value_is p e _ h
has_value p e (Node-F.Not x) h = value_is p e _ h
has_value p e (Node-F.Neg x) h = value_is p e _ h
has_value p e (Node-F.And xs) h = value_is p e _ h
    ∙ ap (λ l. told (all_of l)) (mapped (valued p) (λ x. truth x.outcome) xs)
has_value p e (Node-F.Or xs) h = value_is p e _ h
    ∙ ap (λ l. told (any_of l)) (mapped (valued p) (λ x. truth x.outcome) xs)
has_value p e (Node-F.Xor []) h = value_is p e _ h
has_value p e (Node-F.Xor (x ∷ [])) h = value_is p e _ h
has_value p e (Node-F.Xor (x ∷ y ∷ [])) h = value_is p e _ h
has_value p e (Node-F.Xor (x ∷ y ∷ z ∷ xs)) h = value_is p e _ h
has_value p e (Node-F.Arith op []) h = value_is p e _ h
has_value p e (Node-F.Arith op (x ∷ [])) h = value_is p e _ h
has_value p e (Node-F.Arith op (x ∷ y ∷ [])) h = value_is p e _ h
has_value p e (Node-F.Arith op (x ∷ y ∷ z ∷ xs)) h = value_is p e _ h
has_value p e (Node-F.Call name uses xs) h = value_is p e _ h
    ∙ ap (of_all (λ values. gives (called p.meaning name uses e.ty values)))
    (mapped (valued p) (λ x. x.outcome) xs)
has_value p e (Node-F.NumberText set x) h = value_is p e _ h
has_value p e (Node-F.Convert set x) h = value_is p e _ h
has_value p e (Node-F.Aggregate name distinct x place) h = value_is p e _ h
has_value p e (Node-F.WeightString cut x) h = value_is p e _ h
    ∙ ap (λ ty. of_one (λ it. gives (weighed p.meaning cut ty it)) (value p x)) (type_is p x)

-- Expressions that can be evaluated

abbrev pub fits_layer : ℕ → Node-F Bool Bool → Bool
fits_layer n node = itself_fits n node && list_all (λ x. x) (operands node)

abbrev pub fits_node : ℕ → Node → Bool
fits_node n node = fold-Node Bool Bool (fits_layer n) (λ x. type_fits n x.ty && x.node) node

abbrev pub fit_over : ℕ → Node-F Node TypedExpr → Node-F Bool Bool
fit_over n node = map-Node Node TypedExpr Bool Bool (fits_node n) (fits n) node

fits_expr_is : (n : ℕ) (e : TypedExpr) → fits n e ≡ (type_fits n e.ty && fits_node n e.node)
unfolding fits
fits_expr_is n e = fold_out-TypedExpr Bool Bool (fits_layer n) (λ x. type_fits n x.ty && x.node) e

fits_node_is : (n : ℕ) (node : Node) → fits_node n node ≡ fits_layer n (fit_over n (out-Node node))
unfolding fits
fits_node_is n node = fold_out-Node Bool Bool (fits_layer n) (λ x. type_fits n x.ty && x.node) node

pub type_fit : (n : ℕ) (e : TypedExpr) → IsTrue (fits n e) → IsTrue (type_fits n e.ty)
type_fit n e h = (and_parts (type_fits n e.ty) (fits_node n e.node) (sym (fits_expr_is n e) ∙ h)).0

layer_fit : (n : ℕ) (e : TypedExpr) (node : Node-F Node TypedExpr) → out-Node e.node ≡ node
    → IsTrue (fits n e) → fits_layer n (fit_over n node) ≡ true
layer_fit n e node h k =
    let whole = and_parts (type_fits n e.ty) (fits_node n e.node) (sym (fits_expr_is n e) ∙ k) in
    ap (λ l. fits_layer n (fit_over n l)) (sym h) ∙ (sym (fits_node_is n e.node) ∙ whole.1)

pub itself_over : (n : ℕ) (node : Node-F Node TypedExpr)
    → itself_fits n (fit_over n node) ≡ itself_fits n node
itself_over n (Node-F.Const it) = refl
itself_over n (Node-F.Column place) = refl
itself_over n (Node-F.Compare op coll xs) = refl
itself_over n (Node-F.Like coll xs escape negated) = refl
itself_over n (Node-F.In coll xs negated) = refl
itself_over n (Node-F.Between coll xs negated) = refl
itself_over n (Node-F.Call name uses xs) = refl
itself_over n _ = refl

pub itself_fit : (n : ℕ) (e : TypedExpr) (node : Node-F Node TypedExpr) → out-Node e.node ≡ node
    → IsTrue (fits n e) → IsTrue (itself_fits n node)
itself_fit n e node h k = sym (itself_over n node)
    ∙ (and_parts (itself_fits n (fit_over n node)) (list_all (λ x. x) (operands (fit_over n node)))
    (layer_fit n e node h k)).0

operands_fit : (n : ℕ) (e : TypedExpr) (node : Node-F Node TypedExpr) → out-Node e.node ≡ node
    → IsTrue (fits n e) → list_all (λ x. x) (operands (fit_over n node)) ≡ true
operands_fit n e node h k =
    (and_parts (itself_fits n (fit_over n node)) (list_all (λ x. x) (operands (fit_over n node)))
    (layer_fit n e node h k)).1

one_fits : (n : ℕ) (x : TypedExpr) → list_all (λ x. x) (fits n x ∷ []) ≡ true → IsTrue (fits n x)
one_fits n x h = (and_parts (fits n x) true h).0

each_fits : (n : ℕ) (xs : List TypedExpr) → list_all (λ x. x) (map (fits n) xs) ≡ true
    → AllByRecursion (λ x. IsTrue (fits n x)) xs
each_fits n [] h = tt
each_fits n (x ∷ xs) h =
    let both = and_parts (fits n x) (list_all (λ x. x) (map (fits n) xs)) h in
    (both.0, each_fits n xs both.1)

all_fit : (n : ℕ) (xs : List TypedExpr) → list_all (λ x. x) (map (fits n) xs) ≡ true
    → All (λ x. IsTrue (fits n x)) xs
all_fit n xs h = All-from_recursion (λ x. IsTrue (fits n x)) xs (each_fits n xs h)

pair_fits : (n : ℕ) (xs : List TypedExpr) → list_all (λ x. x) (map (fits n) xs) ≡ true
    → DoFit n (pair_of xs)
pair_fits n [] h = tt
pair_fits n (x ∷ []) h = tt
pair_fits n (x ∷ y ∷ []) h = let all = each_fits n (x ∷ y ∷ []) h in (all.0, all.1.0)
pair_fits n (x ∷ y ∷ z ∷ xs) h = tt

triple_fits : (n : ℕ) (xs : List TypedExpr) → list_all (λ x. x) (map (fits n) xs) ≡ true
    → DoFit n (triple_of xs)
triple_fits n [] h = tt
triple_fits n (x ∷ []) h = tt
triple_fits n (x ∷ y ∷ []) h = tt
triple_fits n (x ∷ y ∷ z ∷ []) h =
    let all = each_fits n (x ∷ y ∷ z ∷ []) h in (all.0, all.1.0, all.1.1.0)
triple_fits n (x ∷ y ∷ z ∷ w ∷ xs) h = tt

layer_fits : (n : ℕ) (node : Node-F Node TypedExpr)
    → list_all (λ x. x) (operands (fit_over n node)) ≡ true → DoFit n (parts_of node)
layer_fits n (Node-F.Collate x) h = one_fits n x h
layer_fits n (Node-F.Compare op coll xs) h = pair_fits n xs h
layer_fits n (Node-F.Like coll xs escape negated) h = pair_fits n xs h
layer_fits n (Node-F.In coll xs negated) h = all_fit n xs h
layer_fits n (Node-F.Between coll xs negated) h = triple_fits n xs h
layer_fits n (Node-F.IsNull x negated) h = one_fits n x h
layer_fits n (Node-F.Not x) h = one_fits n x h
layer_fits n (Node-F.Neg x) h = one_fits n x h
layer_fits n (Node-F.And xs) h = all_fit n xs h
layer_fits n (Node-F.Or xs) h = all_fit n xs h
layer_fits n (Node-F.Xor xs) h = pair_fits n xs h
layer_fits n (Node-F.Arith op xs) h = pair_fits n xs h
layer_fits n (Node-F.Call name uses xs) h = all_fit n xs h
layer_fits n (Node-F.NumberText set x) h = one_fits n x h
layer_fits n (Node-F.Convert set x) h = one_fits n x h
layer_fits n (Node-F.WeightString cut x) h = one_fits n x h
layer_fits n _ h = tt

pub do_fit : (n : ℕ) (e : TypedExpr) (node : Node-F Node TypedExpr) → out-Node e.node ≡ node
    → IsTrue (fits n e) → DoFit n (parts_of node)
do_fit n e node h k = layer_fits n node (operands_fit n e node h k)

pub has_kept_constant : (n : ℕ) (e : TypedExpr) (node : Node-F Node TypedExpr)
    → out-Node e.node ≡ node → IsTrue (fits n e) → HasKeptConstant node
has_kept_constant n e (Node-F.Const it) h k = itself_fit n e (Node-F.Const it) h k
has_kept_constant n e _ h k = tt

pub has_fit_type : (n : ℕ) (e : TypedExpr) (node : Node-F Node TypedExpr)
    → out-Node e.node ≡ node → IsTrue (fits n e) → HasFitType n node
has_fit_type n e (Node-F.WeightString cut x) h k =
    type_fit n x (do_fit n e (Node-F.WeightString cut x) h k)
has_fit_type n e _ h k = tt

pub fits_from : (n : ℕ) (e : TypedExpr) → IsTrue (type_fits n e.ty)
    → IsTrue (itself_fits n (out-Node e.node))
    → list_all (λ x. x) (operands (fit_over n (out-Node e.node))) ≡ true → IsTrue (fits n e)
fits_from n e type itself parts = fits_expr_is n e
    ∙ and_from (type_fits n e.ty) (fits_node n e.node) type (fits_node_is n e.node
    ∙ and_from (itself_fits n (fit_over n (out-Node e.node)))
    (list_all (λ x. x) (operands (fit_over n (out-Node e.node))))
    (itself_over n (out-Node e.node) ∙ itself) parts)

-- Expressions without LIKE

abbrev like_layer : Node-F Bool Bool → Bool
like_layer node = is_like node || list_any (λ x. x) (operands node)

abbrev like_node : Node → Bool
like_node node = fold-Node Bool Bool like_layer (λ x. x.node) node

abbrev like_over : Node-F Node TypedExpr → Node-F Bool Bool
like_over node = map-Node Node TypedExpr Bool Bool like_node has_like node

like_expr_is : (e : TypedExpr) → has_like e ≡ like_node e.node
unfolding has_like
like_expr_is e = fold_out-TypedExpr Bool Bool like_layer (λ x. x.node) e

like_node_is : (node : Node) → like_node node ≡ like_layer (like_over (out-Node node))
unfolding has_like
like_node_is node = fold_out-Node Bool Bool like_layer (λ x. x.node) node

one_likes : (x : TypedExpr) → (has_like x || false) ≡ false → has_like x ≡ false
one_likes x h = (or_parts (has_like x) false h).0

none_likes : (xs : List TypedExpr) → list_any (λ x. x) (map has_like xs) ≡ false
    → list_any has_like xs ≡ false
none_likes [] h = refl
none_likes (x ∷ xs) h =
    let both = or_parts (has_like x) (list_any (λ x. x) (map has_like xs)) h in
    ap (λ b. b || list_any has_like xs) both.0 ∙ none_likes xs both.1

pair_likes : (node : Node-F Node TypedExpr) (xs : List TypedExpr) → is_like node ≡ false
    → list_any (λ x. x) (map has_like xs) ≡ false → HaveNoLike node (pair_of xs)
pair_likes node [] i h = tt
pair_likes node (x ∷ []) i h = tt
pair_likes node (x ∷ y ∷ []) i h =
    let a = or_parts (has_like x) (has_like y || false) h in (a.0, one_likes y a.1, i)
pair_likes node (x ∷ y ∷ z ∷ xs) i h = tt

triple_likes : (node : Node-F Node TypedExpr) (xs : List TypedExpr)
    → list_any (λ x. x) (map has_like xs) ≡ false → HaveNoLike node (triple_of xs)
triple_likes node [] h = tt
triple_likes node (x ∷ []) h = tt
triple_likes node (x ∷ y ∷ []) h = tt
triple_likes node (x ∷ y ∷ z ∷ []) h =
    let a = or_parts (has_like x) (has_like y || (has_like z || false)) h in
    let b = or_parts (has_like y) (has_like z || false) a.1 in
    (a.0, b.0, one_likes z b.1)
triple_likes node (x ∷ y ∷ z ∷ w ∷ xs) h = tt

layer_likes : (node : Node-F Node TypedExpr) → like_layer (like_over node) ≡ false
    → HaveNoLike node (parts_of node)
layer_likes (Node-F.Collate x) h = one_likes x h
layer_likes (Node-F.Compare op coll xs) h = pair_likes (Node-F.Compare op coll xs) xs refl h
layer_likes (Node-F.Like coll xs escape negated) h = cc
layer_likes (Node-F.In coll xs negated) h = none_likes xs h
layer_likes (Node-F.Between coll xs negated) h =
    triple_likes (Node-F.Between coll xs negated) xs h
layer_likes (Node-F.IsNull x negated) h = one_likes x h
layer_likes (Node-F.Not x) h = one_likes x h
layer_likes (Node-F.Neg x) h = one_likes x h
layer_likes (Node-F.And xs) h = none_likes xs h
layer_likes (Node-F.Or xs) h = none_likes xs h
layer_likes (Node-F.Xor xs) h = pair_likes (Node-F.Xor xs) xs refl h
layer_likes (Node-F.Arith op xs) h = pair_likes (Node-F.Arith op xs) xs refl h
layer_likes (Node-F.Call name uses xs) h = none_likes xs h
layer_likes (Node-F.NumberText set x) h = one_likes x h
layer_likes (Node-F.Convert set x) h = one_likes x h
layer_likes (Node-F.WeightString cut x) h = one_likes x h
layer_likes _ h = tt

pub have_no_like : (e : TypedExpr) (node : Node-F Node TypedExpr) → out-Node e.node ≡ node
    → has_like e ≡ false → HaveNoLike node (parts_of node)
have_no_like e node h k = layer_likes node (ap (λ l. like_layer (like_over l)) (sym h)
    ∙ (sym (like_node_is e.node) ∙ (sym (like_expr_is e) ∙ k)))
