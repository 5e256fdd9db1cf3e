-- The rows of the runs of intervals are those that are reached, each once.
use Rattle.std.proofs.Common.{◌≡◌, ◌≢◌, ℕ, ◌<◌, ◌≤◌, false, List, [], ◌∷◌, Some, None, Ok, Err}
use Rattle.std.proofs.Common.{length, get_or, map, refl, sym, ap, subst, ◌∙◌, inl, inr, arith}
use Rattle.std.proofs.lemmas.Bool.{cases_lt}
use Rattle.std.proofs.lemmas.Bool.Decides.{nat_tests}
use Rattle.std.proofs.lemmas.Cmp.{nat_eq_equiv}
use Rattle.std.proofs.lemmas.List.{get_or-map, get_or_default, length-map}
use Rattle.std.proofs.lemmas.List.Elements.{All-from_recursion, recursion_from_All}
use Rattle.std.proofs.lemmas.List.Sorted.{All-permutation, Contains-permutation, IsPermutation-sym}
use Rattle.std.proofs.lemmas.List.Sums.{count_by-le-length}
use Rattle.std.proofs.lemmas.Map.Keys.{IsDistinct-IsPermutation, IsStrictlyIncreasing-from_distinct}
use Rattle.std.proofs.lemmas.Map.Keys.{apart_from_distinct}
use Rattle.std.specs.List.{AllByRecursion, Contains, IsDistinct}
use Rattle.std.specs.List.Sorted.{IsNonDecreasing, IsPermutation}
use Rattle.std.specs.Prelude.{All, IfOk, Option, Result, nat_eq, slice_index}
use Rattle.mc_index.specs.Entries.{AreApart, SeenEntry, SeenIndex, rows_of}
use Rattle.mc_index.specs.Laws.{IsBetween, PlacesAreBetween}
use Rattle.mc_index.specs.Places.{end_place, first_place, is_passed}
use Rattle.mc_index.specs.declared.side.Side.TheVariants.{After}
use Rattle.mc_range.specs.declared.interval.Interval.{Interval}
use Rattle.mc_gather.specs.declared.gather.Run.{Run}
use Rattle.mc_gather.specs.Runs.{HasRunRows, places_from, rows_at, run_of}
use Rattle.mc_gather.specs.Through.{AreRowsThrough, IsReached}
use Rattle.mc_gather.proofs.Covered.{AreOnce, covered_place, in_from, in_map, in_to, map_in}
use Rattle.mc_gather.proofs.Covered.{once_places, place_covered}
use Rattle.mc_gather.proofs.Sorted.{In, all_in, found, in_permutation}

end_within : (index : SeenIndex) (high : Option (List ℕ))
    → end_place index high ≤ length index.entries
end_within index None = omega arith
end_within index (Some high) = count_by-le-length (is_passed index high After) index.entries

runs_within : (index : SeenIndex) (intervals : List Interval)
    → AllByRecursion (λ (run : Run). run.end ≤ length index.entries) (map (run_of index) intervals)
runs_within index [] = tt
runs_within index (interval ∷ intervals) =
    (end_within index interval.hi, runs_within index intervals)

-- No run ends behind the entries.
pub ends_within : (index : SeenIndex) (intervals : List Interval) (old runs : List Run)
    → old ≡ map (run_of index) intervals → IsPermutation old runs
    → All (λ (run : Run). run.end ≤ length index.entries) runs
ends_within index intervals old runs e p =
    let P = λ (run : Run). run.end ≤ length index.entries in
    All-permutation P old runs p (subst (All P) (sym e)
    (All-from_recursion P (map (run_of index) intervals) (runs_within index intervals)))

module _ (index : SeenIndex) (apart : AreApart index.entries) where
  abbrev row : ℕ → ℕ
  row place = slice_index (rows_of index.entries) place

  unlike : (x y : ℕ) → nat_eq x y ≡ false → x ≡ y → ⊥
  unlike x y e f = grind (arith, nat_tests, e, f)

  not_below : (p q : ℕ) → q < length index.entries → row p ≡ row q → p < q → ⊥
  not_below p q within same less =
      let len = length-map index.entries (λ (entry : SeenEntry). entry.row) in
      unlike (row p) (row q)
      (apart_from_distinct nat_eq (rows_of index.entries) p q 0 apart less
      (omega (arith, len, within)))
      same

  one_place : (p q : ℕ) → p < length index.entries → q < length index.entries → row p ≡ row q
      → p ≡ q
  one_place p q v w same = elim (cases_lt p q) as (λ r. p ≡ q) [
    | inl less ↦ absurd (not_below p q w same less)
    | inr past ↦ elim (cases_lt q p) as (λ r. p ≡ q) [
      | inl less ↦ absurd (not_below q p v (sym same) less)
      | inr other ↦ omega (arith, past, other)
    ]
  ]

  distinct_rows : (places : List ℕ) → AreOnce places
      → ((p : ℕ) → In p places → p < length index.entries)
      → IsDistinct nat_eq (rows_at index places)
  unfolding IsDistinct
  distinct_rows [] once within = tt
  distinct_rows (p ∷ places) once within = (
    all_in (λ y. nat_eq (row p) y ≡ false) (rows_at index places) (λ y i.
        let at = map_in row y places i in
        let differ : row p ≢ y = λ e. once.0 (subst (λ q. In q places)
        (sym (one_place p at.0 (within p (inl refl)) (within at.0 (inr at.1.0)) (e ∙ at.1.1)))
        at.1.0) in
        grind (arith, nat_tests, differ)),
    distinct_rows places once.1 (λ q i. within q (inr i)),
  )

  nat_eq_flips : (x y : ℕ) → nat_eq x y ≡ nat_eq y x
  nat_eq_flips x y = nat_eq_equiv.symm x y

  module _ (between : PlacesAreBetween index) (intervals : List Interval) (rows sorted : List ℕ)
      (runs : HasRunRows index intervals rows) (shuffled : IsPermutation rows sorted) where
    abbrev places : List ℕ
    places = places_from 0 runs.runs

    abbrev no_entry : SeenEntry
    no_entry = record { weights = []; row = 0 }

    place_within : (p : ℕ) → In p places → p < length index.entries
    place_within p i =
        let c = place_covered runs.runs p i in
        let P = λ (run : Run). run.end ≤ length index.entries in
        let end = found P runs.runs c.0
        (recursion_from_All P runs.runs (ends_within index intervals
        (map (run_of index) intervals) runs.runs refl runs.permutation)) c.1.0 in
        omega (arith, c.1.1.1, end)

    distinct : IsDistinct nat_eq rows
    distinct = subst (IsDistinct nat_eq) (sym runs.are)
        (distinct_rows places (once_places runs.runs 0) place_within)

    entry_row : (p : ℕ) (d : SeenEntry) → p < length index.entries
        → row p ≡ (get_or index.entries p d).row
    entry_row p d within =
        get_or-map (λ (entry : SeenEntry). entry.row) index.entries p d 0 within

    reached_at : (p r : ℕ) → In p places → r ≡ row p → IsReached index intervals r
    reached_at p r i e =
        let within = place_within p i in
        let c = place_covered runs.runs p i in
        let of = map_in (run_of index) c.0 intervals
        (in_permutation (map (run_of index) intervals) runs.runs runs.permutation c.0 c.1.0) in
        let entry = get_or index.entries p no_entry in
        let low : first_place index of.0.lo ≤ p = subst (λ (x : Run). x.first ≤ p) of.1.1 c.1.1.0 in
        let high : p < end_place index of.0.hi = subst (λ (x : Run). p < x.end) of.1.1 c.1.1.1 in (
          entry,
          (p, within, get_or_default index.entries p entry no_entry within),
          sym (e ∙ entry_row p no_entry within),
          (
            of.0,
            in_to of.0 intervals of.1.0,
            (between of.0.lo of.0.hi p no_entry within).0 (low, high),
          ),
        )

    reached : (r : ℕ) → Contains sorted r → IsReached index intervals r
    reached r c =
        let back = Contains-permutation sorted rows r (IsPermutation-sym rows sorted shuffled) c in
        let i = in_from r rows back.0 back.1 back.2 in
        let at = map_in row r places (subst (In r) runs.are i) in
        reached_at at.0 r at.1.0 at.1.1

    contained : (r : ℕ) → IsReached index intervals r → Contains sorted r
    contained r c =
        let entry = c.0 in
        let k = c.1.0 in
        let within = c.1.1 in
        let interval = c.3.0 in
        let bounds = (between interval.lo interval.hi k entry within).1
        (subst (IsBetween index interval.lo interval.hi) (sym c.1.2) c.3.2) in
        let run = run_of index interval in
        let i = in_map (run_of index) interval intervals
        (in_from interval intervals c.3.1.0 c.3.1.1 c.3.1.2) in
        let j = in_permutation runs.runs (map (run_of index) intervals)
        (IsPermutation-sym (map (run_of index) intervals) runs.runs runs.permutation) run i in
        let place = covered_place runs.runs runs.sorted k (run, (j, bounds)) in
        let is : row k ≡ r =
        entry_row k entry within ∙ ap (λ (x : SeenEntry). x.row) c.1.2 ∙ c.2 in
        Contains-permutation rows sorted r shuffled (in_to r rows
        (subst (In r) (sym runs.are) (subst (λ x. In x (rows_at index places)) is
        (in_map row k places place))))

    pub rows_reached : IsNonDecreasing sorted → AreRowsThrough index intervals sorted
    rows_reached rises = record {
      ascending = IsStrictlyIncreasing-from_distinct sorted rises
          (IsDistinct-IsPermutation nat_eq nat_eq_flips rows sorted shuffled distinct);
      exact = λ r. (reached r, contained r);
    }

pub ok_map : {T E : Type 0} (P Q : T → Type 0) (r : Result T E) → ((x : T) → P x → Q x)
    → IfOk r P → IfOk r Q
ok_map P Q (Ok x) f h = f x h
ok_map P Q (Err e) f h = tt
