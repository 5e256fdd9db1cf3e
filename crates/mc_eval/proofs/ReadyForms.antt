-- Conjuncts made ready: what is kept beside them gives what the walk gives.
use Rattle.std.proofs.Common.{◌≡◌, ℕ, ◌+◌, ◌<◌, ◌≤◌, Bool, true, false, ◌↔◌, IsTrue}
use Rattle.std.proofs.Common.{List, [], ◌∷◌, ◌++◌, All, get_or, length, take, refl}
use Rattle.std.proofs.Common.{sym, ap, ◌∙◌, subst, true≢false}
use Rattle.std.proofs.lemmas.Bool.{ltb-true}
use Rattle.std.proofs.lemmas.List.{get_or-map, length-map, map-append, take_more}
use Rattle.std.proofs.lemmas.List.Elements.{All-get_or}
use Rattle.std.specs.Prelude.{Some, ℤ}
use Rattle.std.specs.declared.cmp.Ordering.{Ordering}
use Rattle.mc_ast.specs.declared.operators.CmpOp.{CmpOp}
use Rattle.mc_ast.specs.declared.operators.CmpOp.TheVariants.{Eq, NullEq, Ne, Lt, Le, Gt, Ge}
use Rattle.mc_charset.specs.Chars.{IsWellFormed, is_spelled}
use Rattle.mc_charset.specs.declared.charset.Charset.{Charset}
use Rattle.mc_charset.specs.declared.collation_id.CollId.{CollId}
use Rattle.mc_order.specs.Meaning.{Meaning}
use Rattle.mc_typing.specs.declared.typed.Node.{Node, Node-F, out-Node}
use Rattle.mc_typing.specs.declared.typed.TypedExpr.{TypedExpr}
use Rattle.mc_values.specs.declared.value.Value.{Value}
use Rattle.mc_values.specs.declared.value.Value.TheVariants as value
use Rattle.mc_eval.specs.Comparisons.{compared, holds, text_order}
use Rattle.mc_eval.specs.Fit.{fits, has_like}
use Rattle.mc_eval.specs.Matches.{liked}
use Rattle.mc_eval.specs.Node.{Place}
use Rattle.mc_eval.specs.Outcomes.{Outcome, of_two}
use Rattle.mc_eval.specs.Outcomes.Outcome.{gives}
use Rattle.mc_eval.specs.Prepared.{Conjunct, IsComparison, IsFormOf, IsMatch, IsPrepared, on_sides}
use Rattle.mc_eval.specs.Prepared.{pair, prepared_exprs, value_at, without_order}
use Rattle.mc_eval.specs.Shapes.{Parts, pair_of}
use Rattle.mc_eval.specs.Truths.{known, told, truth, turned}
use Rattle.mc_eval.specs.Value.{value as value_of}
use Rattle.mc_eval.specs.declared.column_comparisons.ColumnComparison.{ColumnComparison}
use Rattle.mc_eval.specs.declared.column_matches.ColumnMatch.{ColumnMatch}
use Rattle.mc_eval.specs.declared.forms.Form.TheVariants.{Compared, Matched}
use Rattle.mc_eval.specs.declared.truth.Truth.{Truth}
use Rattle.mc_eval.specs.declared.truth.Truth.TheVariants.{No, Faulty, Unknown, Yes}
use Rattle.mc_eval.proofs.KeptConstants.{text_kept}
use Rattle.mc_eval.proofs.Parts.{has_kept_constant, has_value, have_no_like, itself_fit}

pub text_well_formed :
    ((set : Charset) (text : List ℕ) → IsTrue (is_spelled set text) ↔ IsWellFormed set text)
    → (count : ℕ) (e : TypedExpr) (set : Charset) (text : List ℕ)
    → out-Node e.node ≡ Node-F.Const (value.Str set text) → IsTrue (fits count e)
    → IsWellFormed set text
text_well_formed tells count e set text h k = (text_kept tells set text
    (has_kept_constant count e (Node-F.Const (value.Str set text)) h k)).text

abbrev first_of : TypedExpr → Parts TypedExpr → TypedExpr
first_of other (Parts.two x y) = x
first_of other parts = other

abbrev second_of : TypedExpr → Parts TypedExpr → TypedExpr
second_of other (Parts.two x y) = y
second_of other parts = other

abbrev is_two : Parts TypedExpr → Bool
is_two (Parts.two x y) = true
is_two parts = false

-- Operands that are evaluated as two are two.
pub pair_in : (xs : List TypedExpr) (x y : TypedExpr) → pair_of xs ≡ Parts.two x y → xs ≡ pair x y
pair_in [] x y h = cc
pair_in (a ∷ []) x y h = cc
pair_in (a ∷ b ∷ []) x y h =
    ap (λ u. u ∷ b ∷ []) (ap (first_of x) h) ∙ ap (λ u. x ∷ u ∷ []) (ap (second_of x) h)
pair_in (a ∷ b ∷ c ∷ xs) x y h = cc

-- Comparisons of two texts by their order.
compared_texts : (m : ℕ → Meaning) (id : CollId) (op : CmpOp) (s u : Charset) (t v : List ℕ)
    → compared m (Some id) op (value.Str s t) (value.Str u v)
    ≡ known (holds op (text_order (m id.0) (value.Str s t) (value.Str u v)))
compared_texts m id Eq s u t v = refl
compared_texts m id NullEq s u t v = refl
compared_texts m id Ne s u t v = refl
compared_texts m id Lt s u t v = refl
compared_texts m id Le s u t v = refl
compared_texts m id Gt s u t v = refl
compared_texts m id Ge s u t v = refl

pub order_truth : (m : ℕ → Meaning) (id : CollId) (op : CmpOp) (first : Bool) (s u : Charset)
    (t v : List ℕ) (order : Ordering)
    → order ≡ on_sides first (text_order (m id.0)) (value.Str s t) (value.Str u v)
    → known (holds op order)
    ≡ on_sides first (compared m (Some id) op) (value.Str s t) (value.Str u v)
order_truth m id op true s u t v order h =
    ap (λ o. known (holds op o)) h ∙ sym (compared_texts m id op u s v t)
order_truth m id op false s u t v order h =
    ap (λ o. known (holds op o)) h ∙ sym (compared_texts m id op s u t v)

null_first : (m : ℕ → Meaning) (id : CollId) (op : CmpOp) (u : Charset) (v : List ℕ)
    → compared m (Some id) op value.Null (value.Str u v) ≡ without_order op
null_first m id Eq u v = refl
null_first m id NullEq u v = refl
null_first m id Ne u v = refl
null_first m id Lt u v = refl
null_first m id Le u v = refl
null_first m id Gt u v = refl
null_first m id Ge u v = refl

null_second : (m : ℕ → Meaning) (id : CollId) (op : CmpOp) (u : Charset) (v : List ℕ)
    → compared m (Some id) op (value.Str u v) value.Null ≡ without_order op
null_second m id Eq u v = refl
null_second m id NullEq u v = refl
null_second m id Ne u v = refl
null_second m id Lt u v = refl
null_second m id Le u v = refl
null_second m id Gt u v = refl
null_second m id Ge u v = refl

number_first : (m : ℕ → Meaning) (id : CollId) (op : CmpOp) (n : ℤ) (u : Charset) (v : List ℕ)
    → compared m (Some id) op (value.Int n) (value.Str u v) ≡ without_order op
number_first m id Eq n u v = refl
number_first m id NullEq n u v = refl
number_first m id Ne n u v = refl
number_first m id Lt n u v = refl
number_first m id Le n u v = refl
number_first m id Gt n u v = refl
number_first m id Ge n u v = refl

number_second : (m : ℕ → Meaning) (id : CollId) (op : CmpOp) (n : ℤ) (u : Charset) (v : List ℕ)
    → compared m (Some id) op (value.Str u v) (value.Int n) ≡ without_order op
number_second m id Eq n u v = refl
number_second m id NullEq n u v = refl
number_second m id Ne n u v = refl
number_second m id Lt n u v = refl
number_second m id Le n u v = refl
number_second m id Gt n u v = refl
number_second m id Ge n u v = refl

pub null_truth : (m : ℕ → Meaning) (id : CollId) (op : CmpOp) (first : Bool) (u : Charset)
    (v : List ℕ) → without_order op
    ≡ on_sides first (compared m (Some id) op) value.Null (value.Str u v)
null_truth m id op true u v = sym (null_second m id op u v)
null_truth m id op false u v = sym (null_first m id op u v)

pub number_truth : (m : ℕ → Meaning) (id : CollId) (op : CmpOp) (first : Bool) (n : ℤ)
    (u : Charset) (v : List ℕ) → without_order op
    ≡ on_sides first (compared m (Some id) op) (value.Int n) (value.Str u v)
number_truth m id op true n u v = sym (number_second m id op n u v)
number_truth m id op false n u v = sym (number_first m id op n u v)

pub truth_told : (t : Truth) → truth (told t) ≡ t
truth_told No = refl
truth_told Faulty = refl
truth_told Unknown = refl
truth_told Yes = refl

-- The value of a comparison.
compare_value : (p : Place) (e : TypedExpr) (op : CmpOp) (id : CollId) (x y : TypedExpr)
    (v w : Value) → out-Node e.node ≡ Node-F.Compare op (Some id) (pair x y)
    → value_of p x ≡ gives v → value_of p y ≡ gives w
    → truth (value_of p e) ≡ compared p.meaning (Some id) op v w
compare_value p e op id x y v w h hx hy =
    let f : Value → Value → Outcome = λ a b. told (compared p.meaning (Some id) op a b) in
    ap truth (has_value p e (Node-F.Compare op (Some id) (pair x y)) h
    ∙ ap (λ o. of_two f o (value_of p y)) hx ∙ ap (λ o. of_two f (gives v) o) hy)
    ∙ truth_told (compared p.meaning (Some id) op v w)

abbrev pub at_sides : ColumnComparison → Bool → TypedExpr → TypedExpr → Node-F Node TypedExpr
at_sides it first column constant =
    Node-F.Compare it.op (Some it.id) (on_sides first pair column constant)

sides_value : (p : Place) (e : TypedExpr) (op : CmpOp) (id : CollId) (first : Bool)
    (x y : TypedExpr) (v w : Value)
    → out-Node e.node ≡ Node-F.Compare op (Some id) (on_sides first pair x y)
    → value_of p x ≡ gives v → value_of p y ≡ gives w
    → truth (value_of p e) ≡ on_sides first (compared p.meaning (Some id) op) v w
sides_value p e op id true x y v w h hx hy = compare_value p e op id y x w v h hy hx
sides_value p e op id false x y v w h hx hy = compare_value p e op id x y v w h hx hy

pub comparison_value : (p : Place) (e : TypedExpr) (it : ColumnComparison)
    (is : IsComparison p.meaning e it) → truth (value_of p e)
    ≡ on_sides it.text_first (compared p.meaning (Some it.id) it.op)
    (value_at p.row it.place) (value.Str is.set is.text)
comparison_value p e it is = sides_value p e it.op it.id it.text_first is.column is.constant
    (value_at p.row it.place) (value.Str is.set is.text) is.node
    (is.place p) (is.literal p)

pub match_value : (p : Place) (e : TypedExpr) (it : ColumnMatch)
    (is : IsMatch p.meaning e it) → truth (value_of p e)
    ≡ turned it.negated (liked p.meaning (Some it.id) is.escape
    (value_at p.row it.place) (value.Str is.set is.text))
match_value p e it is =
    let f : Value → Value → Outcome =
    λ a b. told (turned it.negated (liked p.meaning (Some it.id) is.escape a b)) in
    let v = value_at p.row it.place in
    let w = value.Str is.set is.text in
    ap truth (has_value p e (Node-F.Like (Some it.id) (pair is.column is.constant) is.escape
    it.negated) is.node
    ∙ ap (λ o. of_two f o (value_of p is.constant)) (is.place p)
    ∙ ap (λ o. of_two f (gives v) o) (is.literal p))
    ∙ truth_told (turned it.negated (liked p.meaning (Some it.id) is.escape v w))

pub turned_unknown : (turn : Bool) → turned turn Unknown ≡ Unknown
turned_unknown true = refl
turned_unknown false = refl

-- The expressions of conjuncts in order.
pub index_in : (cs : List Conjunct) (i : ℕ) → i < length cs → i < length (prepared_exprs cs)
index_in cs i h = subst (λ n. i < n) (sym (length-map cs (λ c. c.expr))) h

pub end_in : (cs : List Conjunct) (i : ℕ) → length cs ≤ i → length (prepared_exprs cs) ≤ i
end_in cs i h = subst (λ n. n ≤ i) (sym (length-map cs (λ c. c.expr))) h

pub item_in : (cs : List Conjunct) (i : ℕ) (x : Conjunct) → i < length cs → x ≡ get_or cs i x
    → x.expr ≡ get_or (prepared_exprs cs) i x.expr
item_in cs i x h e = ap (λ c. c.expr) e ∙ sym (get_or-map (λ c. c.expr) cs i x x.expr h)

pub fits_at : (P : TypedExpr → Type 0) (cs : List Conjunct) (i : ℕ) (x : Conjunct)
    → i < length cs → x ≡ get_or cs i x → All P (prepared_exprs cs) → P x.expr
fits_at P cs i x h e all = subst P (sym (item_in cs i x h e))
    (All-get_or P (prepared_exprs cs) i x.expr (index_in cs i h) all)

-- One conjunct more is made ready.
pub one_more : (cs : List Conjunct) (es : List TypedExpr) (i : ℕ) (c : Conjunct) (e : TypedExpr)
    → i < length es → e ≡ get_or es i e → c.expr ≡ e → prepared_exprs cs ≡ take i es
    → prepared_exprs (cs ++ c ∷ []) ≡ take (i + 1) es
one_more cs es i c e h item is so_far = map-append (λ x. x.expr) cs (c ∷ [])
    ∙ ap (λ l. l ++ c.expr ∷ []) so_far
    ∙ ap (λ x. take i es ++ x ∷ []) (is ∙ item)
    ∙ sym (take_more es i e h)

-- What comes of the forms.
pub comparison_in_book : (count : ℕ) (meaning : ℕ → Meaning) (e : TypedExpr) (it : ColumnComparison)
    → IsComparison meaning e it → IsTrue (fits count e) → it.id.0 < count
comparison_in_book count meaning e it is h = ltb-true it.id.0 count (itself_fit count e
    (Node-F.Compare it.op (Some it.id) (on_sides it.text_first pair is.column is.constant))
    is.node h)

pub match_in_book : (count : ℕ) (meaning : ℕ → Meaning) (e : TypedExpr) (it : ColumnMatch)
    → IsMatch meaning e it → IsTrue (fits count e) → it.id.0 < count
match_in_book count meaning e it is h = ltb-true it.id.0 count (itself_fit count e
    (Node-F.Like (Some it.id) (pair is.column is.constant) is.escape it.negated) is.node h)

pub match_likes : (meaning : ℕ → Meaning) (e : TypedExpr) (it : ColumnMatch)
    → IsMatch meaning e it → has_like e ≡ false → ⊥
match_likes meaning e it is h =
    let none = have_no_like e (Node-F.Like (Some it.id) (pair is.column is.constant) is.escape
    it.negated) is.node h in
    true≢false none.2

pub comparison_ready : (meaning : ℕ → Meaning) (c : Conjunct) (it : ColumnComparison)
    → c.form ≡ Compared it → IsPrepared meaning c → IsComparison meaning c.expr it
comparison_ready meaning c it e h = subst (IsFormOf meaning c.expr) e h

pub match_ready : (meaning : ℕ → Meaning) (c : Conjunct) (it : ColumnMatch)
    → c.form ≡ Matched it → IsPrepared meaning c → IsMatch meaning c.expr it
match_ready meaning c it e h = subst (IsFormOf meaning c.expr) e h
