-- What the walk leaves in its list and counts, and what it answers.
use Rattle.std.proofs.Common.{◌≡◌, ℕ, ◌+◌, Bool, true, false, cond, List, [], ◌∷◌, Option}
use Rattle.std.proofs.Common.{None, Some, length, refl, sym, ap, ◌∙◌, subst, arith}
use Rattle.std.specs.Prelude.{IfOk, IsErr, Result, Ok, Err, nat_eq, ◌&&◌}
use Rattle.mc_base.specs.Results.{result_and_then}
use Rattle.mc_base.specs.declared.refusal.Refusal.{Refusal}
use Rattle.mc_ast.specs.declared.expr.Expr.{Expr}
use Rattle.mc_ast.specs.declared.expr.Form.{Form, Form-F, out-Form}
use Rattle.mc_catalog.specs.declared.catalog.Catalog.{Catalog}
use Rattle.mc_typing.specs.declared.callee.Callee.{Callee}
use Rattle.mc_typing.specs.declared.callee.Callee.TheVariants as callee
use Rattle.mc_typing.specs.declared.fault.TypeFault.{TypeFault}
use Rattle.mc_typing.specs.declared.fault.TypeFault.TheVariants.{Refused, NoMemory}
use Rattle.mc_typing.specs.declared.place.Place.{Place}
use Rattle.mc_typing.specs.declared.scope.Scope.{Scope}
use Rattle.mc_typing.specs.declared.shape.Shape.TheVariants.{Leaf, Single, Several}
use Rattle.mc_typing.specs.declared.typed.TypedExpr.{TypedExpr}
use Rattle.mc_typing.specs.Aggregates.{aggregate_count, form_count, is_aggregate, is_aggregate_form}
use Rattle.mc_typing.specs.Aggregates.{is_constant, total}
use Rattle.mc_typing.specs.Exprs.{Typing, operands, taker_of, turned}
use Rattle.mc_typing.specs.Exprs.{typed_node, typing, typings}
use Rattle.mc_typing.specs.Forms.{parts}
use Rattle.mc_typing.specs.Functions.{callee_of, turns_to_text}
use Rattle.mc_typing.specs.Places.{place_at, place_below}
use Rattle.mc_typing.specs.Walk.{first_numbered, form_typing, numbered, numbered_form, settled}
use Rattle.mc_typing.specs.Walk.{call_shape, shape_of, with_operands}
use Rattle.mc_typing.specs.Wanted.{IsLeft, IsMade, IsWanted}
use Rattle.mc_typing.proofs.Placed.{behind_at, operands_many, placed, typings_many}
use Rattle.mc_typing.proofs.SoundCalls.{eq_to}
use Rattle.mc_typing.proofs.Trees.{count_is, typing_is}

-- A wanted value with its number
pub wanted_made : (r : Result TypedExpr TypeFault) (t : Typing) (n m : ℕ) → n ≡ m → IsWanted r t
    → IsMade r n (result_and_then (λ x. Ok (x, m)) t)
wanted_made (Ok x) t n m e h = ap (result_and_then (λ y. Ok (y, m))) h ∙ ap (λ k. Ok (x, k)) (sym e)
wanted_made (Err (Refused r)) t n m e h = ap (result_and_then (λ y. Ok (y, m))) h
wanted_made (Err NoMemory) t n m e h = tt

pub made_wanted : (r : Result TypedExpr TypeFault) (t : Typing) (n m : ℕ)
    → IsMade r n (result_and_then (λ x. Ok (x, m)) t) → IsWanted r t
made_wanted (Ok x) (Ok y) n m h = first_of (Ok (y, m)) (Ok (x, n)) h
  where
    first_of : (a b : Result (TypedExpr × ℕ) Refusal) → a ≡ b
        → result_and_then (λ p. Ok p.0) a ≡ result_and_then (λ p. Ok p.0) b
    first_of a b e = ap (result_and_then (λ p. Ok p.0)) e
made_wanted (Ok x) (Err q) n m h = cc
made_wanted (Err (Refused r)) (Ok y) n m h = cc
made_wanted (Err (Refused r)) (Err q) n m h = ap (result_and_then (λ p. Ok p.0)) h
made_wanted (Err NoMemory) t n m h = tt

-- The number of an answer that has one, and the value of one
abbrev number_in : {T : Type 0} → Result (T × ℕ) Refusal → ℕ
number_in (Ok p) = p.1
number_in (Err q) = 0

abbrev value_in : {T : Type 0} → T → Result (T × ℕ) Refusal → T
value_in d (Ok p) = p.0
value_in d (Err q) = d

-- Operands that were walked
module _ (c : Catalog) (s : Scope) (groups : List Expr) (place : Place) (taker : Option Callee)
    (first : ℕ) (es : List Expr) where
  abbrev walked : Result (List TypedExpr × ℕ) Refusal
  walked = with_operands c s groups place taker [] first es

  abbrev typed : Result (List TypedExpr) Refusal
  typed = operands c s taker (typings c s groups place first es)

  abbrev behind : ℕ
  behind = first + total aggregate_count es

  list_of : (r : Result (List TypedExpr) Refusal) (xs : List TypedExpr) (n : ℕ)
      → behind_at [] behind r ≡ Ok (xs, n) → r ≡ Ok xs
  list_of (Ok ys) xs n e = ap (result_and_then (λ (p : List TypedExpr × ℕ). Ok p.0)) e
  list_of (Err q) xs n e = cc

  number_of : (r : Result (List TypedExpr) Refusal) (xs : List TypedExpr) (n : ℕ)
      → behind_at [] behind r ≡ Ok (xs, n) → n ≡ behind
  number_of (Ok ys) xs n e = sym (ap number_in e)
  number_of (Err q) xs n e = absurd (cc)

  refused_of : (r : Result (List TypedExpr) Refusal) (q : Refusal)
      → behind_at [] behind r ≡ Err q → r ≡ Err q
  refused_of (Ok ys) q e = absurd (cc)
  refused_of (Err p) q e = ap (result_and_then (λ (p : List TypedExpr × ℕ). Ok p.0)) e

  pub walked_list : (xs : List TypedExpr) (n : ℕ) → walked ≡ Ok (xs, n) → typed ≡ Ok xs
  walked_list xs n e = list_of typed xs n (sym (placed c s groups place taker [] first es) ∙ e)

  pub walked_number : (xs : List TypedExpr) (n : ℕ) → walked ≡ Ok (xs, n) → n ≡ behind
  walked_number xs n e = number_of typed xs n (sym (placed c s groups place taker [] first es) ∙ e)

  pub walked_refused : (q : Refusal) → walked ≡ Err q → typed ≡ Err q
  walked_refused q e = refused_of typed q (sym (placed c s groups place taker [] first es) ∙ e)

  pub many : (xs : List TypedExpr) → typed ≡ Ok xs → length xs ≡ length es
  many xs e = subst (λ r. IfOk r (λ ys. length ys ≡ length (typings c s groups place first es))) e
      (operands_many c s taker 0 (typings c s groups place first es))
      ∙ typings_many c s groups place first es

-- A form of several operands that were walked
module _ (c : Catalog) (s : Scope) (groups : List Expr) (place : Place) (first : ℕ)
    (z : Form-F Form Expr) where
  abbrev below : Place
  below = place_below place z

  abbrev pub left : Result (List TypedExpr × ℕ) Refusal
  left = with_operands c s groups below (taker_of z) [] first (parts z)

  pub form_made : (xs : List TypedExpr) (n : ℕ) (r : Result TypedExpr TypeFault)
      → left ≡ Ok (xs, n)
      → IsWanted r (typed_node c s place (first + total aggregate_count (parts z)) z xs)
      → IsMade r n (numbered_form c s groups place first z)
  form_made xs n r e w =
      let own = walked_list c s groups below (taker_of z) first (parts z) xs n e in
      let at = walked_number c s groups below (taker_of z) first (parts z) xs n e in
      let count = first + total aggregate_count (parts z) in
      subst (λ o. IsMade r n (result_and_then (λ x. Ok (x, count))
      (result_and_then (typed_node c s place count z) o))) (sym own)
      (wanted_made r (typed_node c s place count z xs) n count at w)

  pub form_refused : (fault : TypeFault) (xs : List TypedExpr) (n : ℕ)
      → IsLeft (Err fault) (xs, n) left
      → IsMade (Err fault) n (numbered_form c s groups place first z)
  form_refused (Refused q) xs n h =
      let own = walked_refused c s groups below (taker_of z) first (parts z) q h in
      let count = first + total aggregate_count (parts z) in
      ap (λ o. result_and_then (λ x. Ok (x, count))
      (result_and_then (typed_node c s place count z) o)) own
  form_refused NoMemory xs n h = tt

-- A form without operands
no_call : (which : Option Callee) (n : ℕ) → call_shape which n ≡ Leaf → ⊥
no_call which n e = of_test (is_aggregate which && nat_eq n 1) e
  where
    of_test : (b : Bool) → cond b Single Several ≡ Leaf → ⊥
    of_test true h = cc
    of_test false h = cc

no_parts : {X A : Type 0} (z : Form-F X A) → shape_of z ≡ Leaf → parts z ≡ []
no_parts (Form-F.Call name ts) e = absurd (no_call (callee_of name) (length ts) e)
no_parts (Form-F.Or ts) e = absurd (cc)
no_parts (Form-F.And ts) e = absurd (cc)
no_parts (Form-F.Xor l r) e = absurd (cc)
no_parts (Form-F.Not t) e = absurd (cc)
no_parts (Form-F.Compare op l r) e = absurd (cc)
no_parts (Form-F.IsNull t negated) e = absurd (cc)
no_parts (Form-F.Like l r escape negated) e = absurd (cc)
no_parts (Form-F.In t ts negated) e = absurd (cc)
no_parts (Form-F.Between t low high negated) e = absurd (cc)
no_parts (Form-F.Arith op l r) e = absurd (cc)
no_parts (Form-F.Neg t) e = absurd (cc)
no_parts (Form-F.Collate t name) e = absurd (cc)
no_parts (Form-F.Convert t set) e = absurd (cc)
no_parts (Form-F.CastChar t set) e = absurd (cc)
no_parts (Form-F.CastBinary t) e = absurd (cc)
no_parts (Form-F.CountDistinct t) e = absurd (cc)
no_parts (Form-F.Trim side removed t) e = absurd (cc)
no_parts (Form-F.SubstringFrom t start len) e = absurd (cc)
no_parts (Form-F.WeightString t cut) e = absurd (cc)
no_parts _ e = refl

pub leaf_made : (c : Catalog) (s : Scope) (groups : List Expr) (place : Place) (n : ℕ)
    (z : Form-F Form Expr) (r : Result TypedExpr TypeFault) → shape_of z ≡ Leaf
    → IsWanted r (typed_node c s place n z [])
    → IsMade r n (numbered_form c s groups place n z)
leaf_made c s groups place n z r e w =
    let same : n ≡ n + 0 = omega arith in
    subst (λ es. IsMade r n (result_and_then (λ x. Ok (x, n + total aggregate_count es))
    (result_and_then (typed_node c s place (n + total aggregate_count es) z)
    (operands c s (taker_of z) (typings c s groups (place_below place z) n es)))))
    (sym (no_parts z e))
    (wanted_made r (typed_node c s place (n + 0) z []) n (n + 0) same
    (subst (λ m. IsWanted r (typed_node c s place m z [])) same w))

-- A form with one operand
single_call : (which : Option Callee) (n : ℕ) → call_shape which n ≡ Single
    → (is_aggregate which && nat_eq n 1) ≡ true
single_call which n e = of_test (is_aggregate which && nat_eq n 1) e
  where
    of_test : (b : Bool) → cond b Single Several ≡ Single → b ≡ true
    of_test true h = refl
    of_test false h = cc

single_taker : (which : Option Callee) (b : Bool) → (is_aggregate which && b) ≡ true
    → turns_to_text which 0 ≡ false
single_taker None b e = refl
single_taker (Some (callee.Aggregate name)) b e = refl
single_taker (Some (callee.Of function)) b e = absurd (cc)
single_taker (Some callee.Charset) b e = refl
single_taker (Some callee.Collation) b e = refl
single_taker (Some callee.Coercibility) b e = refl
single_taker (Some callee.Version) b e = refl
single_taker (Some callee.Weights) b e = refl

pub taken_as_is : {X A : Type 0} (z : Form-F X A) → shape_of z ≡ Single
    → turns_to_text (taker_of z) 0 ≡ false
taken_as_is (Form-F.Call name ts) e =
    single_taker (callee_of name) (nat_eq (length ts) 1)
    (single_call (callee_of name) (length ts) e)
taken_as_is (Form-F.Like l r escape negated) e = absurd (cc)
taken_as_is (Form-F.Trim side removed t) e = absurd (cc)
taken_as_is (Form-F.SubstringFrom t start len) e = absurd (cc)
taken_as_is _ e = refl

and_right : (a b : Bool) → (a && b) ≡ true → b ≡ true
and_right true b e = e
and_right false b e = cc

one_call : {A : Type 0} (ts : List A) → nat_eq (length ts) 1 ≡ true → (e : A) × (ts ≡ e ∷ [])
one_call [] e = absurd (let d : 0 ≡ 1 = eq_to 0 1 e in omega (arith, d))
one_call (t ∷ []) e = (t, refl)
one_call (t ∷ u ∷ ts) e = absurd (omega (arith, eq_to (length (t ∷ u ∷ ts)) 1 e))

one_part : {X A : Type 0} (z : Form-F X A) → shape_of z ≡ Single
    → (e : A) × (parts z ≡ e ∷ [])
one_part (Form-F.Not t) h = (t, refl)
one_part (Form-F.IsNull t negated) h = (t, refl)
one_part (Form-F.Neg t) h = (t, refl)
one_part (Form-F.Collate t name) h = (t, refl)
one_part (Form-F.Convert t set) h = (t, refl)
one_part (Form-F.CastChar t set) h = (t, refl)
one_part (Form-F.CastBinary t) h = (t, refl)
one_part (Form-F.CountDistinct t) h = (t, refl)
one_part (Form-F.WeightString t cut) h = (t, refl)
one_part (Form-F.Call name ts) h = one_call ts
    (and_right (is_aggregate (callee_of name)) (nat_eq (length ts) 1)
    (single_call (callee_of name) (length ts) h))
one_part _ h = absurd (cc)

module _ (c : Catalog) (s : Scope) (groups : List Expr) (place : Place) (n : ℕ)
    (z : Form-F Form Expr) (one : shape_of z ≡ Single) where
  abbrev form_over : List Expr → Result (TypedExpr × ℕ) Refusal
  form_over es = result_and_then (λ x. Ok (x, n + total aggregate_count es))
      (result_and_then (typed_node c s place (n + total aggregate_count es) z)
      (operands c s (taker_of z) (typings c s groups (place_below place z) n es)))

  single_over : (e : Expr) (t : Typing) (x : TypedExpr) (m : ℕ) (r : Result TypedExpr TypeFault)
      → result_and_then {U = TypedExpr × ℕ} (λ y. Ok (y, n + aggregate_count e)) t ≡ Ok (x, m)
      → IsWanted r (typed_node c s place m z (x ∷ []))
      → IsMade r m (result_and_then {U = TypedExpr × ℕ}
      (λ y. Ok (y, n + (aggregate_count e + 0)))
      (result_and_then (typed_node c s place (n + (aggregate_count e + 0)) z)
      (operands c s (taker_of z) (t ∷ []))))
  single_over e (Err q) x m r h w = absurd (cc)
  single_over e (Ok y) x m r h w =
      let value : y ≡ x = ap (value_in y) h in
      let at : n + aggregate_count e ≡ m = ap number_in h in
      let count = n + (aggregate_count e + 0) in
      let same : m ≡ count = omega (arith, at) in
      let plain : turned c s (turns_to_text (taker_of z) 0) y ≡ x =
      ap (λ b. turned c s b y) (taken_as_is z one) ∙ value in
      subst (λ v. IsMade r m (result_and_then (λ u. Ok (u, count))
      (typed_node c s place count z (v ∷ [])))) (sym plain)
      (wanted_made r (typed_node c s place count z (x ∷ [])) m count same
      (subst (λ k. IsWanted r (typed_node c s place k z (x ∷ []))) same w))

  pub single_made : (x : TypedExpr) (m : ℕ) (r : Result TypedExpr TypeFault)
      → first_numbered c s groups (place_below place z) n (parts z) ≡ Ok (x, m)
      → IsWanted r (typed_node c s place m z (x ∷ []))
      → IsMade r m (numbered_form c s groups place n z)
  single_made x m r h w =
      let part = one_part z one in
      subst (λ es. IsMade r m (form_over es)) (sym part.1)
      (single_over part.0 (typing c s groups (place_below place z) n part.0) x m r
      (subst (λ es. first_numbered c s groups (place_below place z) n es ≡ Ok (x, m)) part.1 h) w)

-- A tree
settle_is : (n : ℕ) (z : Form-F Form Expr) (below : ℕ)
    → n + form_count z below ≡ settled z n (n + below)
settle_is n z below = of_tests (is_constant z) (is_aggregate_form z)
  where
    of_tests : (b a : Bool)
        → n + cond b 0 (cond a (below + 1) below) ≡ cond b n (cond a ((n + below) + 1) (n + below))
    of_tests true a = omega arith
    of_tests false true = omega arith
    of_tests false false = refl

abbrev moved : Form-F Form Expr → ℕ → TypedExpr × ℕ → Result (TypedExpr × ℕ) Refusal
moved z n p = Ok (p.0, settled z n p.1)

moved_is : (z : Form-F Form Expr) (n under m : ℕ) (t : Typing) → m ≡ settled z n (n + under)
    → result_and_then (λ x. Ok (x, m)) t
    ≡ result_and_then (moved z n) (result_and_then (λ x. Ok (x, n + under)) t)
moved_is z n under m (Ok x) e = ap (λ k. Ok (x, k)) e
moved_is z n under m (Err q) e = refl

pub numbered_is : (c : Catalog) (s : Scope) (groups : List Expr) (place : Place) (n : ℕ) (e : Expr)
    → numbered c s groups place n e ≡ result_and_then (moved (out-Form e.form) n)
    (numbered_form c s groups (place_at groups place e) n (out-Form e.form))
numbered_is c s groups place n e =
    let z = out-Form e.form in
    let own = place_at groups place e in
    ap (result_and_then (λ x. Ok (x, n + aggregate_count e))) (typing_is c s groups e place n)
    ∙ moved_is z n (total aggregate_count (parts z)) (n + aggregate_count e)
    (form_typing c s groups own n z)
    (ap (λ k. n + k) (count_is e) ∙ settle_is n z (total aggregate_count (parts z)))

abbrev nat_in : Result ℕ Refusal → ℕ
nat_in (Ok n) = n
nat_in (Err q) = 0

pub tree_made : (c : Catalog) (s : Scope) (groups : List Expr) (place own : Place) (n m k : ℕ)
    (e : Expr) (x : TypedExpr) → own ≡ place_at groups place e
    → numbered_form c s groups own n (out-Form e.form) ≡ Ok (x, m)
    → IsLeft (Ok tt) k (Ok (settled (out-Form e.form) n m))
    → numbered c s groups place n e ≡ Ok (x, k)
tree_made c s groups place own n m k e x at h is =
    numbered_is c s groups place n e
    ∙ (ap (λ p. result_and_then (moved (out-Form e.form) n)
    (numbered_form c s groups p n (out-Form e.form))) (sym at)
    ∙ (ap (result_and_then (moved (out-Form e.form) n)) h ∙ ap (λ j. Ok (x, j)) (ap nat_in is)))

pub tree_refused : (c : Catalog) (s : Scope) (groups : List Expr) (place own : Place) (n m k : ℕ)
    (e : Expr) (r : Result TypedExpr TypeFault) → own ≡ place_at groups place e → IsErr r
    → IsMade r m (numbered_form c s groups own n (out-Form e.form))
    → IsMade r k (numbered c s groups place n e)
tree_refused c s groups place own n m k e (Ok x) at f h = absurd (cc)
tree_refused c s groups place own n m k e (Err (Refused q)) at f h =
    numbered_is c s groups place n e
    ∙ (ap (λ p. result_and_then (moved (out-Form e.form) n)
    (numbered_form c s groups p n (out-Form e.form))) (sym at)
    ∙ ap (result_and_then (moved (out-Form e.form) n)) h)
tree_refused c s groups place own n m k e (Err NoMemory) at f h = tt
