-- What is among the candidates, how many there are, and how a loop comes to them.
use Rattle.std.proofs.Common.{◌≡◌, ℕ, zero, suc, ◌+◌, ◌-◌, ◌*◌, ◌<◌, ◌≤◌, ◌⊎◌, min}
use Rattle.std.proofs.Common.{List, [], ◌∷◌, ◌++◌, append-nil, map, refl, sym, ap}
use Rattle.std.proofs.Common.{◌∙◌}
use Rattle.std.proofs.Common.{subst, inl, inr, length, get_or, take, take_at, length-append}
use Rattle.std.proofs.Common.{suc-mul, add_comm, mul_comm, mul-zero, arith}
use Rattle.std.specs.List.{flat_map, Contains}
use Rattle.std.proofs.lemmas.Bool.{cases_eq}
use Rattle.std.proofs.lemmas.List.{length-map, get_or-map}
use Rattle.std.proofs.lemmas.List.Elements.{Contains-append_left, Contains-append_right}
use Rattle.mc_range.specs.Candidates.{numbers_from, with_tails, candidates}

pub Contains-first : {X : Type 0} (x : X) (xs : List X) → Contains (x ∷ xs) x
Contains-first x xs = (zero, omega arith, refl)

pub Contains-behind : {X : Type 0} (y : X) (xs : List X) (x : X) → Contains xs x →
    Contains (y ∷ xs) x
Contains-behind y xs x h = (suc h.0, (let l = h.1 in omega arith), h.2)

pub Contains-none : {X : Type 0} (x : X) → Contains [] x → ⊥
Contains-none x h = let l = h.1 in omega arith

pub Contains-map : {X Y : Type 0} (f : X → Y) (xs : List X) (x : X) → Contains xs x →
    Contains (map f xs) (f x)
Contains-map f xs x h = (
  h.0,
  (let l = h.1 in let m = length-map xs f in omega arith),
  get_or-map f xs h.0 x (f x) h.1 ∙ ap f h.2,
)

flat_step : {X Y : Type 0} (f : X → List Y) (z : X) (xs : List X) (x : X) (y : Y) (k : ℕ) →
    k < length (z ∷ xs) → get_or (z ∷ xs) k x ≡ x → Contains (f x) y →
    ((j : ℕ) → j < length xs → get_or xs j x ≡ x → Contains (flat_map f xs) y) →
    Contains (flat_map f (z ∷ xs)) y
flat_step {X} f z xs x y zero within e among rest =
    Contains-append_left (f z) (flat_map f xs) y (subst (λ (w : X). Contains (f w) y) (sym e) among)
flat_step {X} f z xs x y (suc k) within e among rest =
    Contains-append_right (f z) (flat_map f xs) y (rest k (omega arith) e)

pub Contains-flat_map : {X Y : Type 0} (f : X → List Y) (xs : List X) (x : X) (y : Y) →
    Contains xs x → Contains (f x) y → Contains (flat_map f xs) y
Contains-flat_map f [] x y h k = absurd (Contains-none x h)
Contains-flat_map f (z ∷ xs) x y h k =
    flat_step f z xs x y h.0 h.1 h.2 k (λ j l e. Contains-flat_map f xs x y (j, l, e) k)

numbers_contain : (first count n : ℕ) → first ≤ n → n < first + count →
    Contains (numbers_from first count) n
unfolding numbers_from
numbers_contain first zero n low high = absurd (omega arith)
numbers_contain first (suc count) n low high =
    elim (cases_eq first n) [
      | inl same ↦ subst (Contains (numbers_from first (suc count))) same
          (Contains-first first (numbers_from (suc first) count))
      | inr other ↦ Contains-behind first (numbers_from (suc first) count) n
          (numbers_contain (suc first) count n (omega arith) (omega arith))
    ]

with_tail : (tails : List (List ℕ)) (front tail : List ℕ) → (tail ≡ []) ⊎ Contains tails tail →
    Contains (with_tails tails front) (front ++ tail)
with_tail tails front tail (inl none) =
    subst (λ (list : List ℕ). Contains (with_tails tails front) list)
    (sym (ap (λ t. front ++ t) none ∙ append-nil front))
    (Contains-first front (map (λ t. front ++ t) tails))
with_tail tails front tail (inr among) =
    Contains-behind front (map (λ t. front ++ t) tails) (front ++ tail)
    (Contains-map (λ t. front ++ t) tails tail among)

-- A front that is long enough, alone or with a tail, is a candidate.
pub candidate : (floor : ℕ) (tails : List (List ℕ)) (front rest tail : List ℕ) →
    min floor (length (front ++ rest)) ≤ length front →
    (tail ≡ []) ⊎ Contains tails tail →
    Contains (candidates floor tails (front ++ rest)) (front ++ tail)
unfolding candidates
candidate floor tails front rest tail long of =
    let size : length (front ++ rest) ≡ length front + length rest = length-append front rest in
    Contains-flat_map (λ size. with_tails tails (take size (front ++ rest)))
    (numbers_from (min floor (length (front ++ rest)))
    (suc (length (front ++ rest) - min floor (length (front ++ rest)))))
    (length front) (front ++ tail)
    (numbers_contain (min floor (length (front ++ rest)))
    (suc (length (front ++ rest) - min floor (length (front ++ rest)))) (length front) long
    (omega arith))
    (subst (λ (list : List ℕ). Contains (with_tails tails list) (front ++ tail))
    (sym (take_at front rest (length front) refl)) (with_tail tails front tail of))

-- The whole list is a candidate.
pub own_candidate : (floor : ℕ) (tails : List (List ℕ)) (list : List ℕ) →
    Contains (candidates floor tails list) list
own_candidate floor tails list =
    subst (λ (one : List ℕ). Contains (candidates floor tails list) one) (append-nil list)
    (subst (λ (all : List ℕ). Contains (candidates floor tails all) (list ++ []))
    (append-nil list)
    (candidate floor tails list [] [] (let l : length (list ++ []) ≡ length list =
    ap length (append-nil list) in omega arith) (inl refl)))

-- One number more.
pub numbers_step : (n end : ℕ) → n < end →
    numbers_from n (end - n) ≡ n ∷ numbers_from (n + 1) (end - (n + 1))
unfolding numbers_from
numbers_step n end less =
    let size : end - n ≡ suc (end - (n + 1)) = omega arith in
    let next : suc n ≡ n + 1 = omega arith in
    ap (numbers_from n) size ∙ ap (λ k. n ∷ numbers_from k (end - (n + 1))) next

pub numbers_none : (n end : ℕ) → end ≤ n → numbers_from n (end - n) ≡ []
unfolding numbers_from
numbers_none n end over =
    let size : end - n ≡ zero = omega arith in ap (numbers_from n) size

-- The candidates from a size on that is the least.
pub candidates-numbers : (floor least : ℕ) (tails : List (List ℕ)) (list : List ℕ) →
    least ≡ min floor (length list) →
    candidates floor tails list ≡ flat_map (λ size. with_tails tails (take size list))
    (numbers_from least (length list + 1 - least))
unfolding candidates
candidates-numbers floor least tails list e =
    let count : suc (length list - min floor (length list)) ≡ length list + 1 - least =
    omega arith in
    ap (λ n. flat_map (λ size. with_tails tails (take size list))
    (numbers_from (min floor (length list)) n)) count
    ∙ ap (λ n. flat_map (λ size. with_tails tails (take size list))
    (numbers_from n (length list + 1 - least))) (sym e)

length-numbers : (first count : ℕ) → length (numbers_from first count) ≡ count
unfolding numbers_from
length-numbers first zero = refl
length-numbers first (suc count) = ap suc (length-numbers (suc first) count)

product_step : (n s : ℕ) → s + n * s ≡ suc n * s
product_step n s = sym (suc-mul n s ∙ add_comm (n * s) s)

length-fronts : (tails : List (List ℕ)) (list : List ℕ) (numbers : List ℕ) →
    length (flat_map (λ size. with_tails tails (take size list)) numbers)
    ≡ length numbers * suc (length tails)
length-fronts tails list [] = sym (mul_comm 0 (suc (length tails)) ∙ mul-zero (suc (length tails)))
length-fronts tails list (n ∷ numbers) =
    length-append (with_tails tails (take n list))
    (flat_map (λ size. with_tails tails (take size list)) numbers)
    ∙ ap (λ k. suc k + length (flat_map (λ size. with_tails tails (take size list)) numbers))
    (length-map tails (λ tail. take n list ++ tail))
    ∙ ap (λ k. suc (length tails) + k) (length-fronts tails list numbers)
    ∙ product_step (length numbers) (suc (length tails))

pub length-candidates : (floor : ℕ) (tails : List (List ℕ)) (list : List ℕ) →
    length (candidates floor tails list)
    ≡ suc (length list - min floor (length list)) * suc (length tails)
unfolding candidates
length-candidates floor tails list =
    let least = min floor (length list) in
    length-fronts tails list (numbers_from least (suc (length list - least)))
    ∙ ap (λ n. n * suc (length tails)) (length-numbers least (suc (length list - least)))
