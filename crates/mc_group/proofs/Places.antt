-- The places of sorted entries are the places of the rows in order.
use Rattle.std.proofs.Common.{◌≡◌, ℕ, Bool, List, [], ◌∷◌, length, get_or, map, refl, sym}
use Rattle.std.proofs.Common.{ap, ◌∙◌, subst, arith}
use Rattle.std.specs.declared.cmp.Ordering.{Ordering}
use Rattle.std.specs.declared.cmp.Ordering.TheVariants.{Less, Equal, Greater}
use Rattle.std.specs.Cmp.{IsTotalOrder}
use Rattle.std.specs.Ordering.{nat_cmp, ordering_then}
use Rattle.std.specs.List.{All, range_with_len}
use Rattle.std.specs.List.Sorted.{IsPermutation, IsSorted}
use Rattle.std.proofs.lemmas.Cmp.{ranked}
use Rattle.std.proofs.lemmas.List.FromFn.{get_or-map-range_with_len, length-map-range_with_len}
use Rattle.std.proofs.lemmas.List.Sorted.{All-permutation, IsPermutation-map}
use Rattle.mc_order.specs.Meaning.{Meaning}
use Rattle.mc_order.specs.declared.pad.Pad.{Pad}
use Rattle.mc_order.specs.Order.{list_order}
use Rattle.mc_values.specs.declared.value.Value.{Value}
use Rattle.mc_group.specs.declared.column.Column.{Column}
use Rattle.mc_group.specs.declared.entry.Entry.{Entry}
use Rattle.mc_group.specs.declared.kind.KeyKind.{KeyKind}
use Rattle.mc_group.specs.Cells.{cells_of, cells_order, columns_of, entry_order}
use Rattle.mc_group.specs.Fronts.{entry_of}
use Rattle.mc_group.specs.Order.{AreSorted, place_order, row_order}
use Rattle.mc_group.proofs.Cells.{row_order-is}
use Rattle.mc_group.proofs.Sorting.{places_ascend}
use Rattle.mc_group.proofs.Totals.{place_total}

map-places : (f : ℕ → Entry) → ((i : ℕ) → (f i).place ≡ i) → (places : List ℕ) →
    map (λ (e : Entry). e.place) (map f places) ≡ places
map-places f h [] = refl
map-places f h (p ∷ ps) =
    ap (λ q. q ∷ map (λ (e : Entry). e.place) (map f ps)) (h p)
    ∙ ap (λ t. p ∷ t) (map-places f h ps)

numbers_equal : (x y : ℕ) (o : Ordering) → o ≡ nat_cmp x y → o ≡ Equal → x ≡ y
numbers_equal x y Less e h = absurd cc
numbers_equal x y Equal e h = ranked x y Equal e
numbers_equal x y Greater e h = absurd cc

pub then_ties : (x y : ℕ) (o : Ordering) → ordering_then o (nat_cmp x y) ≡ Equal → x ≡ y
then_ties x y Less e = absurd cc
then_ties x y Equal e = numbers_equal x y (nat_cmp x y) refl e
then_ties x y Greater e = absurd cc

-- The entry is that of its place.
IsEntry : (ℕ → Meaning) → List KeyKind → List (List Value) → Entry → Type 0
IsEntry meaning kinds rows entry =
    entry.cells ≡ cells_of meaning kinds (get_or rows entry.place [])

module _ (fronts : List Column) (meaning : ℕ → Meaning) (kinds : List KeyKind) (desc : List Bool)
    (rows : List (List Value)) where
  all_entries : (n : ℕ) → All (IsEntry meaning kinds rows)
      (map (entry_of fronts meaning kinds rows) (range_with_len 0 n))
  unfolding IsEntry
  all_entries n k d within =
      let at = get_or-map-range_with_len (entry_of fronts meaning kinds rows) 0 n k k d
      (omega (arith, length-map-range_with_len (entry_of fronts meaning kinds rows) 0 n))
      (omega arith) in
      subst (λ (e : Entry). e.cells ≡ cells_of meaning kinds (get_or rows e.place [])) (sym at)
      refl

  entries_alike : (a b : Entry) → IsEntry meaning kinds rows a → IsEntry meaning kinds rows b →
      entry_order (columns_of meaning kinds desc) a b
      ≡ place_order (row_order meaning kinds desc) rows a.place b.place
  unfolding IsEntry
  entries_alike a b ha hb =
      ap (λ o. ordering_then o (nat_cmp a.place b.place))
      (ap (λ cells. cells_order (columns_of meaning kinds desc) cells b.cells) ha
      ∙ ap (cells_order (columns_of meaning kinds desc)
      (cells_of meaning kinds (get_or rows a.place []))) hb
      ∙ sym (row_order-is meaning kinds desc (get_or rows a.place []) (get_or rows b.place [])))

  pub places_sorted : ((pad : Pad) (space : ℕ) → IsTotalOrder (list_order pad space)) →
      (entries : List Entry) →
      IsPermutation (map (entry_of fronts meaning kinds rows) (range_with_len 0 (length rows)))
      entries →
      IsSorted (entry_order (columns_of meaning kinds desc)) entries →
      AreSorted (row_order meaning kinds desc) rows (map (λ (e : Entry). e.place) entries)
  places_sorted lists entries permutation sorted =
      let n = length rows in
      let old = map (entry_of fronts meaning kinds rows) (range_with_len 0 n) in
      let all : IsPermutation (range_with_len 0 n) (map (λ (e : Entry). e.place) entries) =
      subst (λ (l : List ℕ). IsPermutation l (map (λ (e : Entry). e.place) entries))
      (map-places (entry_of fronts meaning kinds rows) (λ i. refl) (range_with_len 0 n))
      (IsPermutation-map (λ (e : Entry). e.place) old entries permutation) in
      let each = All-permutation (IsEntry meaning kinds rows) old entries permutation
      (all_entries n) in
      record {
        all = all;
        ascending = places_ascend (entry_order (columns_of meaning kinds desc))
            (λ (e : Entry). e.place) (place_order (row_order meaning kinds desc) rows)
            (place_total lists meaning kinds desc rows)
            (λ x y. then_ties x y
            (row_order meaning kinds desc (get_or rows x []) (get_or rows y [])))
            n entries
            (λ i j d hi hj. entries_alike (get_or entries i d) (get_or entries j d)
            (each i d hi) (each j d hj))
            sorted all;
      }

  -- So are the places that are made of them.
  pub sorted_places : ((pad : Pad) (space : ℕ) → IsTotalOrder (list_order pad space)) →
      (columns sliced : List Column) (old new listed : List Entry) (places : List ℕ) →
      columns ≡ columns_of meaning kinds desc → sliced ≡ columns →
      old ≡ map (entry_of fronts meaning kinds rows) (range_with_len 0 (length rows)) →
      IsPermutation old new → IsSorted (entry_order sliced) new → listed ≡ new →
      places ≡ map (λ (e : Entry). e.place) listed →
      AreSorted (row_order meaning kinds desc) rows places
  sorted_places lists columns sliced old new listed places are_columns are_sliced are_entries
      permutation sorted are_listed are_places =
      subst (AreSorted (row_order meaning kinds desc) rows)
      (sym (are_places ∙ ap (map (λ (e : Entry). e.place)) are_listed))
      (places_sorted lists new
      (subst (λ (l : List Entry). IsPermutation l new) are_entries permutation)
      (subst (λ (cs : List Column). IsSorted (entry_order cs) new) (are_sliced ∙ are_columns)
      sorted))

-- Only a place itself ties with it.
pub place_ties : (meaning : ℕ → Meaning) (kinds : List KeyKind) (desc : List Bool)
    (rows : List (List Value)) (x y : ℕ)
    → place_order (row_order meaning kinds desc) rows x y ≡ Equal → x ≡ y
place_ties meaning kinds desc rows x y =
    then_ties x y (row_order meaning kinds desc (get_or rows x []) (get_or rows y []))
