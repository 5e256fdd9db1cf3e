-- The members of a list, and of one that ascends.
use Rattle.std.proofs.Common.{◌≡◌, List, [], ◌∷◌, ◌⊎◌, refl, sym, ap, subst, ◌∙◌, inl, inr}
use Rattle.std.proofs.lemmas.List.Elements.{All-from_recursion, recursion_from_All}
use Rattle.std.proofs.lemmas.List.Sorted.{All-permutation}
use Rattle.std.specs.Cmp.{IsTotalOrder}
use Rattle.std.specs.List.{AllByRecursion}
use Rattle.std.specs.List.Sorted.{IsPermutation, IsStrictlySortedBy}
use Rattle.std.specs.Ordering.{ordering_reverse}
use Rattle.std.specs.declared.cmp.Ordering.{Ordering}
use Rattle.std.specs.declared.cmp.Ordering.TheVariants.{Less, Greater}

module _ {A : Type 0} where
  abbrev pub In : A → List A → Type 0
  In q [] = ⊥
  In q (x ∷ xs) = (q ≡ x) ⊎ In q xs

  pub found : (P : A → Type 0) (xs : List A) (q : A) → AllByRecursion P xs → In q xs → P q
  found P [] q h i = absurd i
  found P (x ∷ xs) q h (inl e) = subst P (sym e) h.0
  found P (x ∷ xs) q h (inr i) = found P xs q h.1 i

  pub all_in : (P : A → Type 0) (xs : List A) → ((q : A) → In q xs → P q) → AllByRecursion P xs
  all_in P [] h = tt
  all_in P (x ∷ xs) h = (h x (inl refl), all_in P xs (λ q i. h q (inr i)))

  pub in_permutation : (xs ys : List A) → IsPermutation xs ys → (q : A) → In q ys → In q xs
  in_permutation xs ys p q i =
      let P : A → Type 0 = λ a. In a xs in
      found P ys q (recursion_from_All P ys
      (All-permutation P xs ys p (All-from_recursion P xs (all_in P xs (λ a j. j))))) i

module _ {A : Type 0} (R : A → A → Ordering) (o : IsTotalOrder R) where
  apart : (x y : A) → R x y ≡ Less → R y x ≡ Less → ⊥
  apart x y e f = let g : R x y ≡ Greater = o.antisymm x y ∙ ap ordering_reverse f in cc

  heads : (x y : A) (xs ys : List A) → AllByRecursion (λ z. R x z ≡ Less) xs
      → AllByRecursion (λ z. R y z ≡ Less) ys → In x (y ∷ ys) → In y (x ∷ xs) → x ≡ y
  heads x y xs ys s t (inl e) i = e
  heads x y xs ys s t (inr j) (inl e) = sym e
  heads x y xs ys s t (inr j) (inr i) = absurd (apart x y
      (found (λ z. R x z ≡ Less) xs y s i) (found (λ z. R y z ≡ Less) ys x t j))

  behind : (x y : A) (xs ys : List A) → x ≡ y → AllByRecursion (λ z. R x z ≡ Less) xs
      → (q : A) → In q xs → In q (y ∷ ys) → In q ys
  behind x y xs ys e s q i (inr j) = j
  behind x y xs ys e s q i (inl f) = absurd (
      let h : R x q ≡ Less = found (λ z. R x z ≡ Less) xs q s i in
      let g : R x x ≡ Less = ap (R x) (e ∙ sym f) ∙ h in apart x x g g)

  -- There is one list of these members that ascends.
  pub one_list : (xs ys : List A) → IsStrictlySortedBy R xs → IsStrictlySortedBy R ys
      → ((q : A) → In q xs → In q ys) → ((q : A) → In q ys → In q xs) → xs ≡ ys
  unfolding IsStrictlySortedBy
  one_list [] [] s t f g = refl
  one_list [] (y ∷ ys) s t f g = absurd (g y (inl refl))
  one_list (x ∷ xs) [] s t f g = absurd (f x (inl refl))
  one_list (x ∷ xs) (y ∷ ys) s t f g =
      let e = heads x y xs ys s.0 t.0 (f x (inl refl)) (g y (inl refl)) in
      let rest : xs ≡ ys = one_list xs ys s.1 t.1
      (λ q i. behind x y xs ys e s.0 q i (f q (inr i)))
      (λ q i. behind y x ys xs (sym e) t.0 q i (g q (inr i))) in
      ap (λ a. a ∷ xs) e ∙ ap (λ l. y ∷ l) rest
