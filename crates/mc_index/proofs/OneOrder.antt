-- Two lists in one strict order that have the same members are one.
use Rattle.std.proofs.Common.{◌≡◌, ℕ, zero, suc, ◌<◌, ◌⊎◌, List, [], ◌∷◌, length, get_or, refl, sym}
use Rattle.std.proofs.Common.{ap, ◌∙◌, subst, inl, inr, arith}
use Rattle.std.specs.declared.cmp.Ordering.{Ordering}
use Rattle.std.specs.declared.cmp.Ordering.TheVariants.{Less}
use Rattle.std.specs.Cmp.{IsTotalOrder}
use Rattle.std.specs.Ordering.{ordering_reverse}
use Rattle.std.specs.List.{AllByRecursion, Contains}
use Rattle.std.specs.List.Sorted.{IsPermutation, IsStrictlySortedBy}
use Rattle.std.proofs.lemmas.List.Sorted.{Contains-permutation, IsPermutation-sym}
use Rattle.std.proofs.lemmas.Map.Keys.{sorted_head, sorted_tail}
use Rattle.mc_order.specs.declared.pad.Pad.{Pad}
use Rattle.mc_order.specs.Order.{list_order}
use Rattle.mc_index.specs.Entries.{OneIsSealed, SeenEntry, entry_order}
use Rattle.mc_index.proofs.Ordered.{entry_total}

-- The entry is a member.
abbrev IsIn : {K : Type 0} → K → List K → Type 0
IsIn k [] = ⊥
IsIn k (x ∷ xs) = (k ≡ x) ⊎ IsIn k xs

IsIn-from : {K : Type 0} (k : K) (xs : List K) (i : ℕ) → i < length xs → get_or xs i k ≡ k →
    IsIn k xs
IsIn-from k [] i within e = absurd (omega arith)
IsIn-from k (x ∷ xs) zero within e = inl (sym e)
IsIn-from k (x ∷ xs) (suc i) within e = inr (IsIn-from k xs i (omega arith) e)

IsIn-to : {K : Type 0} (k : K) (xs : List K) → IsIn k xs → Contains xs k
IsIn-to k [] h = absurd h
IsIn-to k (x ∷ xs) (inl e) = (0, omega arith, sym e)
IsIn-to k (x ∷ xs) (inr h) =
    let rest = IsIn-to k xs h in (suc rest.0, omega (arith, rest.1), rest.2)

IsIn-permutation : {K : Type 0} (xs ys : List K) → IsPermutation xs ys → (k : K) → IsIn k xs →
    IsIn k ys
IsIn-permutation xs ys p k h =
    let there = Contains-permutation xs ys k p (IsIn-to k xs h) in
    IsIn-from k ys there.0 there.1 there.2

module _ {K : Type 0} (S : K → K → Ordering)
    (turned : (x y : K) → S x y ≡ ordering_reverse (S y x)) where
  behind : (x : K) (xs : List K) → AllByRecursion (λ y. S x y ≡ Less) xs → (k : K) → IsIn k xs →
      S x k ≡ Less
  behind x [] all k h = absurd h
  behind x (y ∷ xs) all k (inl e) = subst (λ (z : K). S x z ≡ Less) (sym e) all.0
  behind x (y ∷ xs) all k (inr h) = behind x xs all.1 k h

  not_turned : {P : Type 0} (x y : K) → S x y ≡ Less → S y x ≡ Less → P
  not_turned x y e f = let g = turned x y in absurd cc

  one_head : (x y : K) (xs ys : List K) → IsStrictlySortedBy S (x ∷ xs) →
      IsStrictlySortedBy S (y ∷ ys) → IsIn x (y ∷ ys) → IsIn y (x ∷ xs) → x ≡ y
  one_head x y xs ys a b (inl e) k = e
  one_head x y xs ys a b (inr h) (inl e) = sym e
  one_head x y xs ys a b (inr h) (inr k) =
      not_turned x y (behind x xs (sorted_head S x xs a) y k)
      (behind y ys (sorted_head S y ys b) x h)

  in_tail : (x : K) (xs ys : List K) → IsStrictlySortedBy S (x ∷ xs) →
      ((k : K) → IsIn k (x ∷ xs) → IsIn k (x ∷ ys)) → (k : K) → IsIn k xs → IsIn k ys
  in_tail x xs ys a into k h = by (into k (inr h))
    where
      by : IsIn k (x ∷ ys) → IsIn k ys
      by (inr g) = g
      by (inl e) =
          let less = behind x xs (sorted_head S x xs a) k h in
          let same : S x x ≡ Less = subst (λ (z : K). S x z ≡ Less) e less in
          not_turned x x same same

  same_members : (xs ys : List K) → IsStrictlySortedBy S xs → IsStrictlySortedBy S ys →
      ((k : K) → IsIn k xs → IsIn k ys) → ((k : K) → IsIn k ys → IsIn k xs) → xs ≡ ys
  same_members [] [] a b into back = refl
  same_members [] (y ∷ ys) a b into back = absurd (back y (inl refl))
  same_members (x ∷ xs) [] a b into back = absurd (into x (inl refl))
  same_members (x ∷ xs) (y ∷ ys) a b into back =
      let e = one_head x y xs ys a b (into x (inl refl)) (back y (inl refl)) in
      let b' : IsStrictlySortedBy S (x ∷ ys) =
      subst (λ (z : K). IsStrictlySortedBy S (z ∷ ys)) (sym e) b in
      let into' : (k : K) → IsIn k (x ∷ xs) → IsIn k (x ∷ ys) =
      subst (λ (z : K). (k : K) → IsIn k (x ∷ xs) → IsIn k (z ∷ ys)) (sym e) into in
      let back' : (k : K) → IsIn k (x ∷ ys) → IsIn k (x ∷ xs) =
      subst (λ (z : K). (k : K) → IsIn k (z ∷ ys) → IsIn k (x ∷ xs)) (sym e) back in
      ap (λ t. x ∷ t) (same_members xs ys (sorted_tail S x xs a) (sorted_tail S x ys b')
      (in_tail x xs ys a into') (in_tail x ys xs b' back'))
      ∙ ap (λ z. z ∷ ys) e

  one_order : (all xs ys : List K) → IsPermutation all xs → IsPermutation all ys →
      IsStrictlySortedBy S xs → IsStrictlySortedBy S ys → xs ≡ ys
  one_order all xs ys p q a b =
      same_members xs ys a b
      (λ k h. IsIn-permutation all ys q k
      (IsIn-permutation xs all (IsPermutation-sym all xs p) k h))
      (λ k h. IsIn-permutation all xs p k
      (IsIn-permutation ys all (IsPermutation-sym all ys q) k h))

ordered_as : (pad other : Pad) (space more : ℕ) (entries : List SeenEntry) → pad ≡ other →
    space ≡ more → IsStrictlySortedBy (entry_order pad space) entries →
    IsStrictlySortedBy (entry_order other more) entries
ordered_as pad other space more entries e f h =
    subst (λ (s : ℕ). IsStrictlySortedBy (entry_order other s) entries) f
    (subst (λ (p : Pad). IsStrictlySortedBy (entry_order p space) entries) e h)

pub one_sealed : ((pad : Pad) (space : ℕ) → IsTotalOrder (list_order pad space)) → OneIsSealed
one_sealed lists added index other h k =
    one_order (entry_order added.pad added.space) (entry_total lists added.pad added.space).antisymm
    added.entries index.entries other.entries h.all k.all
    (ordered_as index.pad added.pad index.space added.space index.entries h.pad h.space h.ordered)
    (ordered_as other.pad added.pad other.space added.space other.entries k.pad k.space k.ordered)
