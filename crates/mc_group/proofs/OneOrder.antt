-- Two lists in one strict order that have the same members are one.
use Rattle.std.proofs.Common.{◌≡◌, ℕ, zero, suc, ◌<◌, ◌⊎◌, List, [], ◌∷◌, length, get_or, refl, sym}
use Rattle.std.proofs.Common.{ap, ◌∙◌, subst, inl, inr, arith}
use Rattle.std.specs.declared.cmp.Ordering.{Ordering}
use Rattle.std.specs.declared.cmp.Ordering.TheVariants.{Less}
use Rattle.std.specs.Ordering.{ordering_reverse}
use Rattle.std.specs.List.{AllByRecursion, Contains}
use Rattle.std.specs.List.Sorted.{IsPermutation, IsStrictlySortedBy}
use Rattle.std.proofs.lemmas.List.Sorted.{Contains-permutation, IsPermutation-sym}
use Rattle.std.proofs.lemmas.Map.Keys.{sorted_head, sorted_tail}

-- The number is a member.
abbrev IsIn : ℕ → List ℕ → Type 0
IsIn k [] = ⊥
IsIn k (x ∷ xs) = (k ≡ x) ⊎ IsIn k xs

IsIn-from : (k : ℕ) (xs : List ℕ) (i : ℕ) → i < length xs → get_or xs i k ≡ k → IsIn k xs
IsIn-from k [] i within e = absurd (omega arith)
IsIn-from k (x ∷ xs) zero within e = inl (sym e)
IsIn-from k (x ∷ xs) (suc i) within e = inr (IsIn-from k xs i (omega arith) e)

IsIn-to : (k : ℕ) (xs : List ℕ) → IsIn k xs → Contains xs k
IsIn-to k [] h = absurd h
IsIn-to k (x ∷ xs) (inl e) = (0, omega arith, sym e)
IsIn-to k (x ∷ xs) (inr h) =
    let rest = IsIn-to k xs h in (suc rest.0, omega (arith, rest.1), rest.2)

module _ (S : ℕ → ℕ → Ordering) (turned : (x y : ℕ) → S x y ≡ ordering_reverse (S y x)) where
  behind : (x : ℕ) (xs : List ℕ) → AllByRecursion (λ y. S x y ≡ Less) xs → (k : ℕ) → IsIn k xs →
      S x k ≡ Less
  behind x [] all k h = absurd h
  behind x (y ∷ xs) all k (inl e) = subst (λ (z : ℕ). S x z ≡ Less) (sym e) all.0
  behind x (y ∷ xs) all k (inr h) = behind x xs all.1 k h

  not_both : {P : Type 0} (x y : ℕ) → S x y ≡ Less → S y x ≡ Less → P
  not_both x y e f = let g = turned x y in absurd cc

  one_head : (x y : ℕ) (xs ys : List ℕ) → IsStrictlySortedBy S (x ∷ xs) →
      IsStrictlySortedBy S (y ∷ ys) → IsIn x (y ∷ ys) → IsIn y (x ∷ xs) → x ≡ y
  one_head x y xs ys a b (inl e) k = e
  one_head x y xs ys a b (inr h) (inl e) = sym e
  one_head x y xs ys a b (inr h) (inr k) =
      not_both x y (behind x xs (sorted_head S x xs a) y k) (behind y ys (sorted_head S y ys b) x h)

  in_tail : (x : ℕ) (xs ys : List ℕ) → IsStrictlySortedBy S (x ∷ xs) →
      ((k : ℕ) → IsIn k (x ∷ xs) → IsIn k (x ∷ ys)) → (k : ℕ) → IsIn k xs → IsIn k ys
  in_tail x xs ys a into k h = by (into k (inr h))
    where
      by : IsIn k (x ∷ ys) → IsIn k ys
      by (inr g) = g
      by (inl e) =
          let less = behind x xs (sorted_head S x xs a) k h in
          let same : S x x ≡ Less = subst (λ (z : ℕ). S x z ≡ Less) e less in
          not_both x x same same

  same_members : (xs ys : List ℕ) → IsStrictlySortedBy S xs → IsStrictlySortedBy S ys →
      ((k : ℕ) → IsIn k xs → IsIn k ys) → ((k : ℕ) → IsIn k ys → IsIn k xs) → xs ≡ ys
  same_members [] [] a b into back = refl
  same_members [] (y ∷ ys) a b into back = absurd (back y (inl refl))
  same_members (x ∷ xs) [] a b into back = absurd (into x (inl refl))
  same_members (x ∷ xs) (y ∷ ys) a b into back =
      let e = one_head x y xs ys a b (into x (inl refl)) (back y (inl refl)) in
      let b' : IsStrictlySortedBy S (x ∷ ys) =
      subst (λ (z : ℕ). IsStrictlySortedBy S (z ∷ ys)) (sym e) b in
      let into' : (k : ℕ) → IsIn k (x ∷ xs) → IsIn k (x ∷ ys) =
      subst (λ (z : ℕ). (k : ℕ) → IsIn k (x ∷ xs) → IsIn k (z ∷ ys)) (sym e) into in
      let back' : (k : ℕ) → IsIn k (x ∷ ys) → IsIn k (x ∷ xs) =
      subst (λ (z : ℕ). (k : ℕ) → IsIn k (z ∷ ys) → IsIn k (x ∷ xs)) (sym e) back in
      ap (λ t. x ∷ t) (same_members xs ys (sorted_tail S x xs a) (sorted_tail S x ys b')
      (in_tail x xs ys a into') (in_tail x ys xs b' back'))
      ∙ ap (λ z. z ∷ ys) e

  IsIn-permutation : (xs ys : List ℕ) → IsPermutation xs ys → (k : ℕ) → IsIn k xs → IsIn k ys
  IsIn-permutation xs ys p k h =
      let there = Contains-permutation xs ys k p (IsIn-to k xs h) in
      IsIn-from k ys there.0 there.1 there.2

  pub one_order : (all xs ys : List ℕ) → IsPermutation all xs → IsPermutation all ys →
      IsStrictlySortedBy S xs → IsStrictlySortedBy S ys → xs ≡ ys
  one_order all xs ys p q a b =
      same_members xs ys a b
      (λ k h. IsIn-permutation all ys q k
      (IsIn-permutation xs all (IsPermutation-sym all xs p) k h))
      (λ k h. IsIn-permutation all xs p k
      (IsIn-permutation ys all (IsPermutation-sym all ys q) k h))
