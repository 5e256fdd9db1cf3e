-- Members in order are what a sort gives: there is one list of these members that ascends.
use Rattle.std.proofs.Common.{◌≡◌, List, [], ◌∷◌, ◌⊎◌, refl, sym, ap, subst, ◌∙◌, inl, inr}
use Rattle.std.proofs.lemmas.List.Elements.{All-from_recursion, recursion_from_All}
use Rattle.std.proofs.lemmas.List.Sorted.{All-permutation, IsPermutation-sym}
use Rattle.std.specs.BTreeSet.{insert_key}
use Rattle.std.specs.Cmp.{IsTotalOrder}
use Rattle.std.specs.List.{AllByRecursion}
use Rattle.std.specs.List.Sorted.{IsPermutation, IsStrictlySortedBy}
use Rattle.std.specs.Ordering.{match_ordering, ordering_reverse}
use Rattle.std.specs.declared.cmp.Ordering.{Ordering}
use Rattle.std.specs.declared.cmp.Ordering.TheVariants.{Less, Equal, Greater}
use Rattle.mc_exec.specs.Ordered.{in_order}

module _ {A : Type 0} where
  abbrev pub In : A → List A → Type 0
  In q [] = ⊥
  In q (x ∷ xs) = (q ≡ x) ⊎ In q xs

  found : (P : A → Type 0) (xs : List A) (q : A) → AllByRecursion P xs → In q xs → P q
  found P [] q h i = absurd i
  found P (x ∷ xs) q h (inl e) = subst P (sym e) h.0
  found P (x ∷ xs) q h (inr i) = found P xs q h.1 i

  pub all_in : (P : A → Type 0) (xs : List A) → ((q : A) → In q xs → P q) → AllByRecursion P xs
  all_in P [] h = tt
  all_in P (x ∷ xs) h = (h x (inl refl), all_in P xs (λ q i. h q (inr i)))

  pub in_permutation : (xs ys : List A) → IsPermutation xs ys → (q : A) → In q ys → In q xs
  in_permutation xs ys p q i =
      let P : A → Type 0 = λ a. In a xs in
      found P ys q (recursion_from_All P ys
      (All-permutation P xs ys p (All-from_recursion P xs (all_in P xs (λ a j. j))))) i

module _ {A : Type 0} (R : A → A → Ordering) (o : IsTotalOrder R)
    (ties : (x y : A) → R x y ≡ Equal → x ≡ y) where
  greater : (x y : A) → R x y ≡ Greater → R y x ≡ Less
  greater x y e = o.antisymm y x ∙ ap ordering_reverse e

  apart : (x y : A) → R x y ≡ Less → R y x ≡ Less → ⊥
  apart x y e f = let g : R x y ≡ Greater = o.antisymm x y ∙ ap ordering_reverse f in cc

  kept_in : (xs : List A) (k q : A) → In q xs → In q (insert_key R xs k)
  kept_in [] k q i = absurd i
  kept_in (x ∷ xs) k q i = elim (R k x) as (λ r.
      In q (match_ordering r (k ∷ x ∷ xs) (x ∷ xs) (x ∷ insert_key R xs k))) [
        | Less ↦ inr i
        | Equal ↦ i
        | Greater ↦ elim i as (λ w. In q (x ∷ insert_key R xs k))
            [ inl e ↦ inl e | inr j ↦ inr (kept_in xs k q j) ]
      ]

  new_in : (xs : List A) (k : A) → In k (insert_key R xs k)
  new_in [] k = inl refl
  new_in (x ∷ xs) k = elim (R k x) as (λ r. R k x ≡ r →
      In k (match_ordering r (k ∷ x ∷ xs) (x ∷ xs) (x ∷ insert_key R xs k))) [
        | Less ↦ λ e. inl refl
        | Equal ↦ λ e. inl (ties k x e)
        | Greater ↦ λ e. inr (new_in xs k)
      ] refl

  from_in : (xs : List A) (k q : A) → In q (insert_key R xs k) → In q (k ∷ xs)
  from_in [] k q i = i
  from_in (x ∷ xs) k q i = elim (R k x) as (λ r.
      In q (match_ordering r (k ∷ x ∷ xs) (x ∷ xs) (x ∷ insert_key R xs k)) → In q (k ∷ x ∷ xs)) [
        | Less ↦ λ j. j
        | Equal ↦ λ j. inr j
        | Greater ↦ λ j. elim j as (λ w. In q (k ∷ x ∷ xs)) [
          | inl e ↦ inr (inl e)
          | inr l ↦ elim (from_in xs k q l) as (λ w. In q (k ∷ x ∷ xs))
              [ inl e ↦ inl e | inr m ↦ inr (inr m) ]
        ]
      ] i

  members : (xs : List A) (q : A) → In q (in_order R xs) → In q xs
  unfolding in_order
  members [] q i = i
  members (x ∷ xs) q i = elim (from_in (in_order R xs) x q i) as (λ w. In q (x ∷ xs))
      [ inl e ↦ inl e | inr j ↦ inr (members xs q j) ]

  all_members : (xs : List A) (q : A) → In q xs → In q (in_order R xs)
  unfolding in_order
  all_members [] q i = i
  all_members (x ∷ xs) q (inl e) =
      subst (λ a. In a (insert_key R (in_order R xs) x)) (sym e) (new_in (in_order R xs) x)
  all_members (x ∷ xs) q (inr i) = kept_in (in_order R xs) x q (all_members xs q i)

  ascends : (xs : List A) (k : A) → IsStrictlySortedBy R xs
      → IsStrictlySortedBy R (insert_key R xs k)
  unfolding IsStrictlySortedBy
  ascends [] k s = (tt, tt)
  ascends (x ∷ xs) k s = elim (R k x) as (λ r. R k x ≡ r → IsStrictlySortedBy R
      (match_ordering r (k ∷ x ∷ xs) (x ∷ xs) (x ∷ insert_key R xs k))) [
        | Less ↦ λ e. (
          (
            e,
            all_in (λ y. R k y ≡ Less) xs
                (λ q i. o.trans k x q e (found (λ y. R x y ≡ Less) xs q s.0 i)),
          ),
          s,
        )
        | Equal ↦ λ e. s
        | Greater ↦ λ e. (
          all_in (λ y. R x y ≡ Less) (insert_key R xs k)
              (λ q i. elim (from_in xs k q i) as (λ w. R x q ≡ Less) [
                | inl f ↦ ap (R x) f ∙ greater k x e
                | inr j ↦ found (λ y. R x y ≡ Less) xs q s.0 j
              ]),
          ascends xs k s.1,
        )
      ] refl

  in_order_ascends : (xs : List A) → IsStrictlySortedBy R (in_order R xs)
  unfolding in_order IsStrictlySortedBy
  in_order_ascends [] = tt
  in_order_ascends (x ∷ xs) = ascends (in_order R xs) x (in_order_ascends xs)

  heads : (x y : A) (xs ys : List A) → AllByRecursion (λ z. R x z ≡ Less) xs
      → AllByRecursion (λ z. R y z ≡ Less) ys → In x (y ∷ ys) → In y (x ∷ xs) → x ≡ y
  heads x y xs ys s t (inl e) i = e
  heads x y xs ys s t (inr j) (inl e) = sym e
  heads x y xs ys s t (inr j) (inr i) = absurd (apart x y
      (found (λ z. R x z ≡ Less) xs y s i) (found (λ z. R y z ≡ Less) ys x t j))

  behind : (x y : A) (xs ys : List A) → x ≡ y → AllByRecursion (λ z. R x z ≡ Less) xs
      → (q : A) → In q xs → In q (y ∷ ys) → In q ys
  behind x y xs ys e s q i (inr j) = j
  behind x y xs ys e s q i (inl f) = absurd (
      let h : R x q ≡ Less = found (λ z. R x z ≡ Less) xs q s i in
      let g : R x x ≡ Less = ap (R x) (e ∙ sym f) ∙ h in apart x x g g)

  one_list : (xs ys : List A) → IsStrictlySortedBy R xs → IsStrictlySortedBy R ys
      → ((q : A) → In q xs → In q ys) → ((q : A) → In q ys → In q xs) → xs ≡ ys
  unfolding IsStrictlySortedBy
  one_list [] [] s t f g = refl
  one_list [] (y ∷ ys) s t f g = absurd (g y (inl refl))
  one_list (x ∷ xs) [] s t f g = absurd (f x (inl refl))
  one_list (x ∷ xs) (y ∷ ys) s t f g =
      let e = heads x y xs ys s.0 t.0 (f x (inl refl)) (g y (inl refl)) in
      let rest : xs ≡ ys = one_list xs ys s.1 t.1
      (λ q i. behind x y xs ys e s.0 q i (f q (inr i)))
      (λ q i. behind y x ys xs (sym e) t.0 q i (g q (inr i))) in
      ap (λ a. a ∷ xs) e ∙ ap (λ l. y ∷ l) rest

  -- What a sort gives is the members in order.
  pub sorted_is : (xs ys : List A) → IsPermutation xs ys → IsStrictlySortedBy R ys
      → ys ≡ in_order R xs
  sorted_is xs ys p s = one_list ys (in_order R xs) s (in_order_ascends xs)
      (λ q i. all_members xs q (in_permutation xs ys p q i))
      (λ q i. in_permutation ys xs (IsPermutation-sym xs ys p) q (members xs q i))
