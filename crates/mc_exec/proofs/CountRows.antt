-- The classes of values are those of rows of one value each.
use Rattle.std.proofs.Common.{◌≡◌, ℕ, Bool, true, false, not, ◌&&◌, List, [], ◌∷◌, length, map}
use Rattle.std.proofs.Common.{refl, ap, ◌∙◌, cond}
use Rattle.std.proofs.lemmas.List.{length-map}
use Rattle.std.proofs.lemmas.List.Elements.{All-from_recursion, recursion_from_All}
use Rattle.std.specs.List.{AllByRecursion, filter}
use Rattle.std.specs.Prelude.{All}
use Rattle.mc_group.specs.Groups.{firsts, same_row, same_value}
use Rattle.mc_group.specs.Kinds.{IsKeyRow, IsOfKind}
use Rattle.mc_group.specs.Sums.{is_null}
use Rattle.mc_group.specs.declared.kind.KeyKind.{KeyKind}
use Rattle.mc_order.specs.Meaning.{Meaning}
use Rattle.mc_values.specs.declared.value.Value.{Value}
use Rattle.mc_exec.specs.Aggregates.{present}

filter-map : {A B : Type 0} (f : A → B) (p : B → Bool) (xs : List A)
    → filter p (map f xs) ≡ map f (filter (λ x. p (f x)) xs)
filter-map f p [] = refl
filter-map f p (x ∷ xs) = elim (p (f x)) as (λ b.
    cond b (f x ∷ filter p (map f xs)) (filter p (map f xs))
    ≡ map f (cond b (x ∷ filter (λ y. p (f y)) xs) (filter (λ y. p (f y)) xs)))
    [ true ↦ ap (λ t. f x ∷ t) (filter-map f p xs) | false ↦ filter-map f p xs ]

pub firsts-map : {A B : Type 0} (f : A → B) (same : B → B → Bool) (xs : List A)
    → firsts same (map f xs) ≡ map f (firsts (λ x y. same (f x) (f y)) xs)
unfolding firsts
firsts-map f same [] = refl
firsts-map f same (x ∷ xs) =
    ap (λ t. f x ∷ t) (ap (filter (λ y. not (same (f x) y))) (firsts-map f same xs)
    ∙ filter-map f (λ y. not (same (f x) y)) (firsts (λ x y. same (f x) (f y)) xs))

and_true : (b : Bool) → (b && true) ≡ b
and_true true = refl
and_true false = refl

one_value : (meaning : ℕ → Meaning) (of : KeyKind) (v w : Value)
    → same_row meaning (of ∷ []) (v ∷ []) (w ∷ []) ≡ same_value meaning of v w
unfolding same_row
one_value meaning of v w = and_true (same_value meaning of v w)

pub class_count : (meaning : ℕ → Meaning) (of : KeyKind) (values : List Value)
    → length (firsts (same_row meaning (of ∷ [])) (map (λ it. it ∷ []) values))
    ≡ length (firsts (same_value meaning of) values)
class_count meaning of values =
    let same = same_row meaning (of ∷ []) in
    ap length (firsts-map (λ (it : Value). it ∷ []) same values)
    ∙ (length-map (firsts (λ x y. same (x ∷ []) (y ∷ [])) values) (λ (it : Value). it ∷ [])
    ∙ ap (λ (s : Value → Value → Bool). length (firsts s values))
    (λ i v w. one_value meaning of v w i))

present_kind : (P : Value → Type 0) (values : List Value) → AllByRecursion P values
    → AllByRecursion P (present values)
present_kind P [] h = tt
present_kind P (v ∷ values) h = elim (is_null v) as (λ b. AllByRecursion P
    (cond (not b) (v ∷ present values) (present values)))
    [ true ↦ present_kind P values h.1 | false ↦ (h.0, present_kind P values h.1) ]

each_row : (meaning : ℕ → Meaning) (of : KeyKind) (values : List Value)
    → AllByRecursion (IsOfKind meaning of) values
    → AllByRecursion (IsKeyRow meaning (of ∷ [])) (map (λ (it : Value). it ∷ []) values)
each_row meaning of [] h = tt
each_row meaning of (v ∷ values) h = ((h.0, tt), each_row meaning of values h.1)

-- The rows of one value each are of its kind.
pub value_rows : (meaning : ℕ → Meaning) (of : KeyKind) (values : List Value)
    → All (IsOfKind meaning of) values
    → All (IsKeyRow meaning (of ∷ [])) (map (λ (it : Value). it ∷ []) (present values))
value_rows meaning of values h =
    All-from_recursion (IsKeyRow meaning (of ∷ [])) (map (λ (it : Value). it ∷ []) (present values))
    (each_row meaning of (present values) (present_kind (IsOfKind meaning of) values
    (recursion_from_All (IsOfKind meaning of) values h)))
