-- The extreme of values is the one at the place that is found.
use Rattle.std.proofs.Common.{◌≡◌, ℕ, zero, suc, ◌<◌, Bool, true, false, not, List, [], ◌∷◌}
use Rattle.std.proofs.Common.{Some, refl, sym, ap, ◌∙◌, cond, get_or, length, arith}
use Rattle.std.proofs.lemmas.List.{get_or_default}
use Rattle.std.proofs.lemmas.List.Elements.{recursion_from_All}
use Rattle.std.specs.List.{AllByRecursion, IsFirstBest, find, list_any}
use Rattle.std.specs.Prelude.{All, unwrap_or, ◌||◌}
use Rattle.std.specs.declared.cmp.Ordering.{Ordering}
use Rattle.mc_group.specs.Extremes.{stands_before}
use Rattle.mc_values.specs.declared.value.Value.{Value}
use Rattle.mc_values.specs.declared.value.Value.TheVariants as value
use Rattle.mc_exec.specs.Aggregates.{extreme}

none_passes : {A : Type 0} (p : A → Bool) (xs : List A) (d : A)
    → ((k : ℕ) → k < length xs → p (get_or xs k d) ≡ false) → list_any p xs ≡ false
none_passes p [] d h = refl
none_passes p (x ∷ xs) d h =
    ap (λ b. b || list_any p xs) (h 0 (omega arith))
    ∙ none_passes p xs d (λ k l. h (suc k) (omega (arith, l)))

or_true : (a b : Bool) → b ≡ true → (a || b) ≡ true
or_true true b h = refl
or_true false b h = h

one_passes : {A : Type 0} (p : A → Bool) (xs : List A) (d : A) (k : ℕ) → k < length xs
    → p (get_or xs k d) ≡ true → list_any p xs ≡ true
one_passes p [] d k l h = absurd (omega arith)
one_passes p (x ∷ xs) d zero l h = ap (λ b. b || list_any p xs) h
one_passes p (x ∷ xs) d (suc k) l h =
    or_true (p x) (list_any p xs) (one_passes p xs d k (omega arith) h)

found_at : {A : Type 0} (p : A → Bool) (xs : List A) (d : A) (i : ℕ) → i < length xs
    → p (get_or xs i d) ≡ true → ((k : ℕ) → k < i → p (get_or xs k d) ≡ false)
    → find p xs ≡ Some (get_or xs i d)
found_at p [] d i l h none = absurd (omega arith)
found_at p (x ∷ xs) d zero l h none = ap (λ b. cond b (Some x) (find p xs)) h
found_at p (x ∷ xs) d (suc i) l h none =
    ap (λ b. cond b (Some x) (find p xs)) (none 0 (omega arith))
    ∙ found_at p xs d i (omega arith) h (λ k m. none (suc k) (omega (arith, m)))

-- The first value that no other one stands before.
pub extreme_at : (order : Value → Value → Ordering) (values : List Value) (i : ℕ)
    → IsFirstBest (stands_before order) values (length values) i
    → extreme order values ≡ get_or values i value.Null
extreme_at order values i h =
    let d : Value = value.Null in
    let test : Value → Bool = λ it. not (list_any (λ other. stands_before order other it) values) in
    let here : test (get_or values i d) ≡ true =
    ap not (none_passes (λ other. stands_before order other (get_or values i d)) values d
    (λ k l. h.1 k d l)) in
    let before = λ (k : ℕ) (l : k < i).
    let e : list_any (λ other. stands_before order other (get_or values k d)) values ≡ true =
    one_passes (λ other. stands_before order other (get_or values k d)) values d i h.0
    (h.2 k d l) in
    ap not e in
    ap (λ o. unwrap_or o d) (found_at test values d i h.0 here before)

null_found : (p : Value → Bool) (values : List Value) → AllByRecursion (λ it. it
    ≡ value.Null) values
    → unwrap_or (find p values) value.Null ≡ value.Null
null_found p [] h = refl
null_found p (x ∷ xs) h = elim (p x) as (λ b.
    unwrap_or (cond b (Some x) (find p xs)) value.Null ≡ value.Null)
    [ true ↦ h.0 | false ↦ null_found p xs h.1 ]

pub extreme_null : (order : Value → Value → Ordering) (values : List Value)
    → All (λ it. it ≡ value.Null) values → extreme order values ≡ value.Null
extreme_null order values h = null_found _ values
    (recursion_from_All (λ (it : Value). it ≡ value.Null) values h)

-- An item of a list that is lent.
pub extreme_item : (order : Value → Value → Ordering) (values lent : List Value) (i : ℕ)
    (item : Value) → lent ≡ values → item ≡ get_or lent i item
    → IsFirstBest (stands_before order) values (length values) i → item ≡ extreme order values
extreme_item order values lent i item e is h =
    is ∙ (ap (λ l. get_or l i item) e ∙ (get_or_default values i item value.Null h.0
    ∙ sym (extreme_at order values i h)))
