-- The places of runs are those that a run covers, each once.
use Rattle.std.proofs.Common.{◌≡◌, ℕ, zero, suc, ◌+◌, ◌-◌, ◌<◌, ◌≤◌, ◌⊎◌, List, [], ◌∷◌, ◌++◌}
use Rattle.std.proofs.Common.{length, get_or, map, max, refl, sym, ap, subst, inl, inr, arith}
use Rattle.std.proofs.lemmas.Bool.{cases_lt}
use Rattle.std.proofs.lemmas.List.Elements.{recursion_from_All}
use Rattle.std.specs.List.{AllByRecursion, Contains, range_with_len}
use Rattle.std.specs.List.Sorted.{IsNonDecreasingBy}
use Rattle.std.specs.Prelude.{⊤}
use Rattle.mc_gather.specs.declared.gather.Run.{Run}
use Rattle.mc_gather.specs.Runs.{places_from}
use Rattle.mc_gather.proofs.Sorted.{In, found}

module _ {A : Type 0} where
  pub in_left : (q : A) (xs ys : List A) → In q xs → In q (xs ++ ys)
  in_left q [] ys i = absurd i
  in_left q (x ∷ xs) ys (inl e) = inl e
  in_left q (x ∷ xs) ys (inr i) = inr (in_left q xs ys i)

  pub in_right : (q : A) (xs ys : List A) → In q ys → In q (xs ++ ys)
  in_right q [] ys i = i
  in_right q (x ∷ xs) ys i = inr (in_right q xs ys i)

  pub in_either : (q : A) (xs ys : List A) → In q (xs ++ ys) → In q xs ⊎ In q ys
  in_either q [] ys i = inr i
  in_either q (x ∷ xs) ys (inl e) = inl (inl e)
  in_either q (x ∷ xs) ys (inr i) = elim (in_either q xs ys i) as (λ w. In q (x ∷ xs) ⊎ In q ys)
      [ inl j ↦ inl (inr j) | inr j ↦ inr j ]

  pub in_from : (q : A) (xs : List A) (k : ℕ) → k < length xs → get_or xs k q ≡ q → In q xs
  in_from q [] k within e = absurd (omega arith)
  in_from q (x ∷ xs) zero within e = inl (sym e)
  in_from q (x ∷ xs) (suc k) within e = inr (in_from q xs k (omega arith) e)

  pub in_to : (q : A) (xs : List A) → In q xs → Contains xs q
  in_to q [] i = absurd i
  in_to q (x ∷ xs) (inl e) = (0, omega arith, sym e)
  in_to q (x ∷ xs) (inr i) =
      let rest = in_to q xs i in (suc rest.0, omega (arith, rest.1), rest.2)

module _ {A B : Type 0} (f : A → B) where
  pub in_map : (q : A) (xs : List A) → In q xs → In (f q) (map f xs)
  in_map q [] i = absurd i
  in_map q (x ∷ xs) (inl e) = inl (ap f e)
  in_map q (x ∷ xs) (inr i) = inr (in_map q xs i)

  pub map_in : (y : B) (xs : List A) → In y (map f xs) → (q : A) × (In q xs × (y ≡ f q))
  map_in y [] i = absurd i
  map_in y (x ∷ xs) (inl e) = (x, (inl refl, e))
  map_in y (x ∷ xs) (inr i) = let rest = map_in y xs i in (rest.0, (inr rest.1.0, rest.1.1))

range_low : (a n p : ℕ) → In p (range_with_len a n) → a ≤ p
range_low a zero p i = absurd i
range_low a (suc n) p (inl e) = omega (arith, e)
range_low a (suc n) p (inr i) = let low = range_low (a + 1) n p i in omega (arith, low)

range_high : (a n p : ℕ) → In p (range_with_len a n) → p < a + n
range_high a zero p i = absurd i
range_high a (suc n) p (inl e) = omega (arith, e)
range_high a (suc n) p (inr i) = let high = range_high (a + 1) n p i in omega (arith, high)

in_range : (a n p : ℕ) → a ≤ p → p < a + n → In p (range_with_len a n)
in_range a zero p low high = absurd (omega (arith, low, high))
in_range a (suc n) p low high = elim (cases_lt a p) as (λ w. In p (range_with_len a (suc n))) [
  | inl less ↦ inr (in_range (a + 1) n p (omega (arith, less)) (omega (arith, high)))
  | inr past ↦ inl (omega (arith, low, past))
]

-- The run has the place.
abbrev pub Covers : Run → ℕ → Type 0
Covers run p = (run.first ≤ p) × (p < run.end)

-- One of the runs has it.
abbrev pub IsCovered : List Run → ℕ → Type 0
IsCovered runs p = (run : Run) × (In run runs × Covers run p)

-- Each run begins no later than those behind it.
abbrev Ascend : List Run → Type 0
Ascend [] = ⊤
Ascend (run ∷ runs) = AllByRecursion (λ (other : Run). run.first ≤ other.first) runs × Ascend runs

ascend : (runs : List Run) → IsNonDecreasingBy (λ (run : Run). run.first) runs → Ascend runs
ascend [] h = tt
ascend (run ∷ runs) h = (
  recursion_from_All (λ (other : Run). run.first ≤ other.first) runs
      (λ k d within. h 0 (suc k) d (omega arith) (omega (arith, within))),
  ascend runs (λ i j d low within.
      h (suc i) (suc j) d (omega (arith, low)) (omega (arith, within))),
)

in_first : (run : Run) (done p : ℕ) → done ≤ p → Covers run p
    → In p (range_with_len (max run.first done) (run.end - max run.first done))
in_first run done p low c =
    in_range (max run.first done) (run.end - max run.first done) p (omega (arith, low, c.0))
    (omega (arith, low, c.0, c.1))

covered_in : (runs : List Run) → Ascend runs → (done p : ℕ) → done ≤ p → IsCovered runs p
    → In p (places_from done runs)
unfolding places_from
covered_in [] h done p low c = absurd c.1.0
covered_in (run ∷ runs) h done p low (other, (inl e, c)) =
    in_left p (range_with_len (max run.first done) (run.end - max run.first done))
    (places_from (max done run.end) runs)
    (in_first run done p low (subst (λ (r : Run). Covers r p) e c))
covered_in (run ∷ runs) h done p low (other, (inr i, c)) =
    elim (cases_lt p run.end) as (λ w. In p
    (range_with_len (max run.first done) (run.end - max run.first done)
    ++ places_from (max done run.end) runs)) [
      | inl less ↦
          let before = found (λ (r : Run). run.first ≤ r.first) runs other h.0 i in
          in_left p (range_with_len (max run.first done) (run.end - max run.first done))
          (places_from (max done run.end) runs)
          (in_first run done p low (omega (arith, before, c.0), less))
      | inr past ↦
          in_right p (range_with_len (max run.first done) (run.end - max run.first done))
          (places_from (max done run.end) runs)
          (covered_in runs h.1 (max done run.end) p (omega (arith, low, past)) (other, (i, c)))
    ]

first_covers : (run : Run) (done p : ℕ)
    → In p (range_with_len (max run.first done) (run.end - max run.first done))
    → (done ≤ p) × Covers run p
first_covers run done p i =
    let low = range_low (max run.first done) (run.end - max run.first done) p i in
    let high = range_high (max run.first done) (run.end - max run.first done) p i in
    (omega (arith, low), (omega (arith, low), omega (arith, low, high)))

in_covered : (runs : List Run) (done p : ℕ) → In p (places_from done runs)
    → (done ≤ p) × IsCovered runs p
unfolding places_from
in_covered [] done p i = absurd i
in_covered (run ∷ runs) done p i = elim (in_either p
    (range_with_len (max run.first done) (run.end - max run.first done))
    (places_from (max done run.end) runs) i) as (λ w. (done ≤ p) × IsCovered (run ∷ runs) p) [
      | inl j ↦ let c = first_covers run done p j in (c.0, (run, (inl refl, c.1)))
      | inr j ↦
          let c = in_covered runs (max done run.end) p j in
          (omega (arith, c.0), (c.1.0, (inr c.1.1.0, c.1.1.1)))
    ]

-- The places of runs that ascend are those that a run covers.
pub covered_place : (runs : List Run) → IsNonDecreasingBy (λ (run : Run). run.first) runs → (p : ℕ)
    → IsCovered runs p → In p (places_from 0 runs)
covered_place runs h p c = covered_in runs (ascend runs h) 0 p (omega arith) c

pub place_covered : (runs : List Run) (p : ℕ) → In p (places_from 0 runs) → IsCovered runs p
place_covered runs p i = (in_covered runs 0 p i).1

-- No member stands twice in the list.
abbrev pub AreOnce : List ℕ → Type 0
AreOnce [] = ⊤
AreOnce (x ∷ xs) = (In x xs → ⊥) × AreOnce xs

once_range : (a n : ℕ) → AreOnce (range_with_len a n)
once_range a zero = tt
once_range a (suc n) =
    ((λ i. let low = range_low (a + 1) n a i in omega (arith, low)), once_range (a + 1) n)

once_joined : (xs ys : List ℕ) → AreOnce xs → AreOnce ys → ((p : ℕ) → In p xs → In p ys → ⊥)
    → AreOnce (xs ++ ys)
once_joined [] ys a b apart = b
once_joined (x ∷ xs) ys a b apart = (
  (λ i. elim (in_either x xs ys i) as (λ w. ⊥)
      [ inl j ↦ a.0 j | inr j ↦ apart x (inl refl) j ]),
  once_joined xs ys a.1 b (λ p i j. apart p (inr i) j),
)

-- No place stands twice among those of runs.
pub once_places : (runs : List Run) (done : ℕ) → AreOnce (places_from done runs)
unfolding places_from
once_places [] done = tt
once_places (run ∷ runs) done =
    once_joined (range_with_len (max run.first done) (run.end - max run.first done))
    (places_from (max done run.end) runs)
    (once_range (max run.first done) (run.end - max run.first done))
    (once_places runs (max done run.end))
    (λ p i j.
    let c = first_covers run done p i in
    let d = in_covered runs (max done run.end) p j in
    omega (arith, c.1.1, d.0))
