-- Entries in order have their places in order.
use Rattle.std.proofs.Common.{◌≡◌, ℕ, ◌+◌, ◌<◌, false, List, [], ◌∷◌, length}
use Rattle.std.proofs.Common.{get_or, map, refl, sym, ap, ◌∙◌, arith}
use Rattle.std.specs.declared.cmp.Ordering.{Ordering}
use Rattle.std.specs.declared.cmp.Ordering.TheVariants.{Less, Equal, Greater}
use Rattle.std.specs.Ordering.{is_lt, ordering_reverse}
use Rattle.std.specs.Cmp.{IsTotalOrder}
use Rattle.std.specs.Prelude.{nat_eq}
use Rattle.std.proofs.lemmas.Cmp.{nat_eq_equiv}
use Rattle.std.specs.List.{IsDistinct, range_with_len}
use Rattle.std.specs.List.Sorted.{IsPermutation, IsSortedBy, IsStrictlySortedBy}
use Rattle.std.proofs.lemmas.Bool.Decides.{nat_tests}
use Rattle.std.proofs.lemmas.List.{get_or-map, length-map}
use Rattle.std.proofs.lemmas.List.FromFn.{get_or-range_with_len, length-range_with_len}
use Rattle.std.proofs.lemmas.Map.Keys.{sorted_from_all_adjacent, IsDistinct-from_apart}
use Rattle.std.proofs.lemmas.Map.Keys.{IsDistinct-IsPermutation, apart_from_distinct}

nat_eq_flips : (x y : ℕ) → nat_eq x y ≡ nat_eq y x
nat_eq_flips x y = nat_eq_equiv.symm x y

-- A range has each number once.
range_distinct : (n : ℕ) → IsDistinct nat_eq (range_with_len 0 n)
range_distinct n =
    IsDistinct-from_apart nat_eq (range_with_len 0 n) (λ i j d before within.
    let j_in : j < n = omega (arith, length-range_with_len 0 n, within) in
    let i_in : i < n = omega (arith, before, j_in) in
    let x = get_or-range_with_len 0 n i d i_in in
    let y = get_or-range_with_len 0 n j d j_in in
    grind (arith, nat_tests, x, y, before))

-- Of two that are neither equal nor the other way round, the first is before the second.
is_less : (S : ℕ → ℕ → Ordering) → IsTotalOrder S → (x y : ℕ) → (S x y ≡ Equal → x ≡ y) →
    is_lt (S y x) ≡ false → nat_eq x y ≡ false → S x y ≡ Less
is_less S o x y ties before apart = by (S x y) (S y x) (o.antisymm x y) ties before
  where
    by : (r s : Ordering) → r ≡ ordering_reverse s → (r ≡ Equal → x ≡ y) → is_lt s ≡ false →
        r ≡ Less
    by Less s e t b = refl
    by Equal s e t b = absurd (let same = t refl in grind (arith, nat_tests, same, apart))
    by Greater Less e t b = absurd cc
    by Greater Equal e t b = cc
    by Greater Greater e t b = cc

module _ {E : Type 0} (R : E → E → Ordering) (place : E → ℕ) (S : ℕ → ℕ → Ordering)
    (o : IsTotalOrder S) (ties : (x y : ℕ) → S x y ≡ Equal → x ≡ y) where
  AreAlike : List E → Type 0
  AreAlike entries =
      (i j : ℕ) (d : E) → i < length entries → j < length entries →
      R (get_or entries i d) (get_or entries j d)
      ≡ S (place (get_or entries i d)) (place (get_or entries j d))

  before_next : (entries : List E) → AreAlike entries →
      IsSortedBy (λ a b. is_lt (R a b)) entries → IsDistinct nat_eq (map place entries) →
      (d : E) (k : ℕ) → k + 1 < length (map place entries) →
      S (get_or (map place entries) k 0) (get_or (map place entries) (k + 1) 0) ≡ Less
  unfolding AreAlike
  before_next entries alike sorted distinct d k within =
      let len = length-map entries place in
      let more : k + 1 < length entries = omega (arith, len, within) in
      let here : k < length entries = omega (arith, more) in
      let a = get_or-map place entries k d 0 here in
      let b = get_or-map place entries (k + 1) d 0 more in
      let rises = sorted k d (omega arith) more in
      let same = alike (k + 1) k d more here in
      let apart = apart_from_distinct nat_eq (map place entries) k (k + 1) 0 distinct
      (omega arith) within in
      is_less S o (get_or (map place entries) k 0) (get_or (map place entries) (k + 1) 0)
      (ties _ _)
      (ap is_lt (ap (λ x. S x (get_or (map place entries) k 0)) b
      ∙ ap (S (place (get_or entries (k + 1) d))) a ∙ sym same) ∙ rises)
      apart

  ascend : (entries : List E) → AreAlike entries →
      IsSortedBy (λ a b. is_lt (R a b)) entries → IsDistinct nat_eq (map place entries) →
      IsStrictlySortedBy S (map place entries)
  unfolding IsStrictlySortedBy
  ascend [] alike sorted distinct = tt
  ascend (e ∷ entries) alike sorted distinct =
      sorted_from_all_adjacent o (map place (e ∷ entries)) 0
      (before_next (e ∷ entries) alike sorted distinct e)

  -- Entries that are sorted by an order that their places have are in order by places.
  pub places_ascend : (n : ℕ) (entries : List E) →
      ((i j : ℕ) (d : E) → i < length entries → j < length entries →
      R (get_or entries i d) (get_or entries j d)
      ≡ S (place (get_or entries i d)) (place (get_or entries j d))) →
      IsSortedBy (λ a b. is_lt (R a b)) entries →
      IsPermutation (range_with_len 0 n) (map place entries) →
      IsStrictlySortedBy S (map place entries)
  unfolding AreAlike
  places_ascend n entries alike sorted permutation =
      ascend entries alike sorted
      (IsDistinct-IsPermutation nat_eq nat_eq_flips (range_with_len 0 n) (map place entries)
      permutation
      (range_distinct n))
