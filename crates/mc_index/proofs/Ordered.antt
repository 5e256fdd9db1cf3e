-- Sorted entries of rows that differ ascend.
use Rattle.std.proofs.Common.{◌≡◌, ℕ, ◌+◌, ◌<◌, false, List, [], ◌∷◌, length, get_or, map, refl}
use Rattle.std.proofs.Common.{ap, ◌∙◌, arith}
use Rattle.std.specs.declared.cmp.Ordering.{Ordering}
use Rattle.std.specs.declared.cmp.Ordering.TheVariants.{Less, Equal, Greater}
use Rattle.std.specs.Cmp.{IsTotalOrder}
use Rattle.std.specs.List.{IsDistinct}
use Rattle.std.specs.List.Sorted.{IsPermutation, IsSorted, IsStrictlySortedBy}
use Rattle.std.specs.Ordering.{is_lt, nat_cmp, on, ordering_reverse, ordering_then}
use Rattle.std.specs.Prelude.{nat_eq}
use Rattle.std.proofs.lemmas.Bool.Decides.{nat_tests}
use Rattle.std.proofs.lemmas.Cmp.{nat_cmp_total, nat_eq_equiv, on_total, ranked, then_total}
use Rattle.std.proofs.lemmas.List.{get_or-map, length-map}
use Rattle.std.proofs.lemmas.List.Sorted.{IsPermutation-map}
use Rattle.std.proofs.lemmas.Map.Keys.{IsDistinct-IsPermutation, apart_from_distinct}
use Rattle.std.proofs.lemmas.Map.Keys.{sorted_from_all_adjacent}
use Rattle.mc_order.specs.declared.pad.Pad.{Pad}
use Rattle.mc_order.specs.Order.{list_order}
use Rattle.mc_index.specs.declared.entry.Entry.{Entry}
use Rattle.mc_index.specs.Entries.{AreApart, AreOrdered, IsSealed, SeenEntry, entry_order, rows_of}
use Rattle.mc_index.specs.Held.{seen, seen_index}

same_numbers : (x y : ℕ) (o : Ordering) → o ≡ nat_cmp x y → o ≡ Equal → x ≡ y
same_numbers x y Less e h = absurd cc
same_numbers x y Equal e h = ranked x y Equal e
same_numbers x y Greater e h = absurd cc

-- Entries that tie have one row.
tied_rows : (x y : ℕ) (o : Ordering) → ordering_then o (nat_cmp x y) ≡ Equal → x ≡ y
tied_rows x y Less e = absurd cc
tied_rows x y Equal e = same_numbers x y (nat_cmp x y) refl e
tied_rows x y Greater e = absurd cc

-- What neither ties nor is the other way round is in order.
is_less : (r s : Ordering) → r ≡ ordering_reverse s → (r ≡ Equal → ⊥) → is_lt s ≡ false → r ≡ Less
is_less Less s turned ties rises = refl
is_less Equal s turned ties rises = absurd (ties refl)
is_less Greater Less turned ties rises = absurd cc
is_less Greater Equal turned ties rises = absurd cc
is_less Greater Greater turned ties rises = absurd cc

nat_eq_flips : (x y : ℕ) → nat_eq x y ≡ nat_eq y x
nat_eq_flips x y = nat_eq_equiv.symm x y

apart_rows : (entries : List SeenEntry) → IsDistinct nat_eq (rows_of entries) → (k : ℕ)
    (d : SeenEntry) → k + 1 < length entries →
    (get_or entries k d).row ≡ (get_or entries (k + 1) d).row → ⊥
apart_rows entries distinct k d within same =
    let len = length-map entries (λ (entry : SeenEntry). entry.row) in
    let a = get_or-map (λ (entry : SeenEntry). entry.row) entries k d 0 (omega arith) in
    let b = get_or-map (λ (entry : SeenEntry). entry.row) entries (k + 1) d 0 within in
    let apart = apart_from_distinct nat_eq (rows_of entries) k (k + 1) 0 distinct (omega arith)
    (omega arith) in
    grind (arith, nat_tests, a, b, apart, same)

-- Rows that differ do so in another order.
pub still_apart : (entries new : List Entry) → IsPermutation entries new →
    AreApart (map seen entries) → AreApart (map seen new)
still_apart entries new permutation apart =
    IsDistinct-IsPermutation nat_eq nat_eq_flips (rows_of (map seen entries))
    (rows_of (map seen new))
    (IsPermutation-map (λ (entry : SeenEntry). entry.row) (map seen entries) (map seen new)
    (IsPermutation-map seen entries new permutation))
    apart

module _ (lists : (pad : Pad) (space : ℕ) → IsTotalOrder (list_order pad space)) where
  pub entry_total : (pad : Pad) (space : ℕ) → IsTotalOrder (entry_order pad space)
  entry_total pad space =
      then_total (on_total (λ (entry : SeenEntry). entry.weights) (lists pad space))
      (on_total (λ (entry : SeenEntry). entry.row) nat_cmp_total)

  ascend : (pad : Pad) (space : ℕ) (entries : List SeenEntry) →
      IsSorted (entry_order pad space) entries →
      IsDistinct nat_eq (rows_of entries) → IsStrictlySortedBy (entry_order pad space) entries
  unfolding IsStrictlySortedBy
  ascend pad space [] sorted distinct = tt
  ascend pad space (e ∷ entries) sorted distinct =
      sorted_from_all_adjacent (entry_total pad space) (e ∷ entries) e (λ k within.
      let a = get_or (e ∷ entries) k e in
      let b = get_or (e ∷ entries) (k + 1) e in
      is_less (entry_order pad space a b) (entry_order pad space b a)
      ((entry_total pad space).antisymm a b)
      (λ ties. apart_rows (e ∷ entries) distinct k e within
      (tied_rows a.row b.row (list_order pad space a.weights b.weights) ties))
      (sorted k e (omega arith) within))

  sorted_seen : (pad : Pad) (space : ℕ) (entries : List Entry) →
      IsSorted (on seen (entry_order pad space)) entries →
      IsSorted (entry_order pad space) (map seen entries)
  sorted_seen pad space [] sorted k d low within = absurd (omega arith)
  sorted_seen pad space (e ∷ entries) sorted k d low within =
      let len = length-map (e ∷ entries) seen in
      let a = get_or-map seen (e ∷ entries) k e d (omega (arith, len, within)) in
      let b = get_or-map seen (e ∷ entries) (k + 1) e d (omega (arith, len, within)) in
      ap (λ y. is_lt (entry_order pad space y (get_or (map seen (e ∷ entries)) k d))) b
      ∙ ap (λ y. is_lt (entry_order pad space (seen (get_or (e ∷ entries) (k + 1) e)) y)) a
      ∙ sorted k e low (omega (arith, len, within))

  -- Entries of rows that differ ascend once they are sorted.
  pub sorted_ascend : (pad : Pad) (space : ℕ) (entries new : List Entry) →
      AreApart (map seen entries) → IsPermutation entries new →
      IsSorted (on seen (entry_order pad space)) new → AreOrdered (seen_index pad space new)
  sorted_ascend pad space entries new apart permutation sorted =
      ascend pad space (map seen new) (sorted_seen pad space new sorted)
      (still_apart entries new permutation apart)

-- So they are an index of what was added.
pub is_sealed : (pad : Pad) (space : ℕ) (entries new : List Entry) → IsPermutation entries new →
    AreOrdered (seen_index pad space new) →
    IsSealed (seen_index pad space entries) (seen_index pad space new)
is_sealed pad space entries new permutation ordered = record {
  pad = refl;
  space = refl;
  all = IsPermutation-map seen entries new permutation;
  ordered = ordered;
}
