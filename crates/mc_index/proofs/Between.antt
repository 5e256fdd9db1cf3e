-- Entries in order: those before a bound, and those of an interval.
use Rattle.std.proofs.Common.{◌≡◌, ◌⊎◌, ℕ, ◌-◌, ◌<◌, ◌≤◌, Bool, true, false, not, ◌&&◌}
use Rattle.std.proofs.Common.{List, Option, Some, None, length, get_or, refl, sym}
use Rattle.std.proofs.Common.{ap, ◌∙◌, subst, inl, inr, ⊎_elim, arith}
use Rattle.std.specs.declared.cmp.Ordering.{Ordering}
use Rattle.std.specs.declared.cmp.Ordering.TheVariants.{Less, Equal, Greater}
use Rattle.std.specs.Cmp.{IsTotalOrder}
use Rattle.std.specs.List.Sorted.{IsPartitionedBy}
use Rattle.std.specs.Ordering.{is_gt, is_le, is_lt, ordering_reverse, ordering_then}
use Rattle.std.proofs.lemmas.Bool.{cases_lt}
use Rattle.std.proofs.lemmas.Cmp.{upto}
use Rattle.std.proofs.lemmas.List.Sums.{count_by-le-length}
use Rattle.std.proofs.lemmas.Map.Keys.{Less-from_sorted}
use Rattle.mc_order.specs.declared.pad.Pad.{Pad}
use Rattle.mc_order.specs.Order.{list_order}
use Rattle.mc_index.specs.declared.side.Side.{Side}
use Rattle.mc_index.specs.declared.side.Side.TheVariants.{Before, After}
use Rattle.mc_index.specs.Entries.{AreOrdered, SeenEntry, SeenIndex, entry_order}
use Rattle.mc_index.specs.Laws.{CountsPlaces, IsBetween, IsFrom, IsUpTo, NoneBetweenTurned}
use Rattle.mc_index.specs.Laws.{PlacesAreBetween}
use Rattle.mc_index.specs.Places.{count_between, end_place, first_place, is_before, is_between}
use Rattle.mc_index.specs.Places.{is_from, is_passed, is_up_to, place_of}
use Rattle.mc_index.proofs.Counts.{count_run, fails_from, not_both, not_true, passes_before}

first_not_greater : (o r : Ordering) → ordering_then o r ≡ Less → is_gt o ≡ false
first_not_greater Less r e = refl
first_not_greater Equal r e = refl
first_not_greater Greater r e = absurd cc

less_from : (o : Ordering) → is_lt o ≡ true → o ≡ Less
less_from Less e = refl
less_from Equal e = absurd cc
less_from Greater e = absurd cc

le_from : (o : Ordering) → is_gt o ≡ false → is_le o ≡ true
le_from Less e = refl
le_from Equal e = refl
le_from Greater e = absurd cc

le_to : (o : Ordering) → is_le o ≡ true → is_gt o ≡ false
le_to Less e = refl
le_to Equal e = refl
le_to Greater e = absurd cc

module _ {K : Type 0} (R : K → K → Ordering) (o : IsTotalOrder R) where
  less_behind : (x y z : K) (r : Ordering) → R x y ≡ r → is_gt r ≡ false → R y z ≡ Less →
      R x z ≡ Less
  less_behind x y z Less e h k = o.trans x y z e k
  less_behind x y z Equal e h k = o.congr x y z e ∙ k
  less_behind x y z Greater e h k = absurd cc

  -- What is not above what stands before a side of a bound stands before it too.
  before_too : (side : Side) (x y z : K) → is_gt (R x y) ≡ false → is_before side (R y z) ≡ true →
      is_before side (R x z) ≡ true
  before_too Before x y z h k =
      ap is_lt (less_behind x y z (R x y) refl h (less_from (R y z) k))
  before_too After x y z h k = le_from (R x z) (upto o x y z h (le_to (R y z) k))

le_not_gt : (o : Ordering) → not (is_gt o) ≡ is_le o
le_not_gt Less = refl
le_not_gt Equal = refl
le_not_gt Greater = refl

not_less : (o : Ordering) → not (is_lt o) ≡ false → o ≡ Less
not_less Less e = refl
not_less Equal e = absurd cc
not_less Greater e = absurd cc

not_greater : (o : Ordering) → not (is_gt o) ≡ false → o ≡ Greater
not_greater Less e = absurd cc
not_greater Equal e = absurd cc
not_greater Greater e = refl

greater_from : (o : Ordering) → is_gt o ≡ true → o ≡ Greater
greater_from Less e = absurd cc
greater_from Equal e = absurd cc
greater_from Greater e = refl

both : (a b : Bool) → a ≡ true → b ≡ true → (a && b) ≡ true
both true b e f = f
both false b e f = absurd cc

first_fails : (a b : Bool) → a ≡ false → (a && b) ≡ false
first_fails true b e = absurd cc
first_fails false b e = refl

second_fails : (a b : Bool) → b ≡ false → (a && b) ≡ false
second_fails true b e = e
second_fails false b e = refl

halves : (a b : Bool) → (a && b) ≡ true → (a ≡ true) × (b ≡ true)
halves true b e = (refl, e)
halves false b e = absurd cc

module _ (lists : (pad : Pad) (space : ℕ) → IsTotalOrder (list_order pad space)) (index : SeenIndex)
    (ordered : AreOrdered index) where
  rise : (i j : ℕ) (d : SeenEntry) → i ≤ j → j < length index.entries →
      (i ≡ j) ⊎ (is_gt (list_order index.pad index.space (get_or index.entries i d).weights
      (get_or index.entries j d).weights) ≡ false)
  rise i j d less within =
      ⊎_elim (λ below. inr (first_not_greater _ _
      (Less-from_sorted (entry_order index.pad index.space) index.entries i j d ordered below
      within)))
      (λ above. inl (omega arith))
      (cases_lt i j)

  -- No entry before a side of a bound stands behind one that does not.
  pub parted : (side : Side) (bound : List ℕ) →
      IsPartitionedBy (is_passed index bound side) index.entries
  parted side bound i j d less within e =
      ⊎_elim
      (λ same. subst (λ (k : ℕ). is_passed index bound side (get_or index.entries k d) ≡ true)
      (sym same) e)
      (λ below. before_too (list_order index.pad index.space) (lists index.pad index.space) side
      (get_or index.entries i d).weights (get_or index.entries j d).weights bound below e)
      (rise i j d less within)

  before_place : (side : Side) (bound : List ℕ) (k : ℕ) (d : SeenEntry) →
      k < place_of index bound side → is_passed index bound side (get_or index.entries k d) ≡ true
  before_place side bound k d less =
      passes_before (is_passed index bound side) index.entries (parted side bound) k d less

  from_place : (side : Side) (bound : List ℕ) (k : ℕ) (d : SeenEntry) →
      k < length index.entries → place_of index bound side ≤ k →
      is_passed index bound side (get_or index.entries k d) ≡ false
  from_place side bound k d within more =
      fails_from (is_passed index bound side) index.entries (parted side bound) k d within more

  from_yes : (low : Option (List ℕ)) (k : ℕ) (d : SeenEntry) → k < length index.entries →
      first_place index low ≤ k → is_from index low (get_or index.entries k d) ≡ true
  from_yes None k d within more = refl
  from_yes (Some low) k d within more = ap not (from_place Before low k d within more)

  from_no : (low : Option (List ℕ)) (k : ℕ) (d : SeenEntry) → k < first_place index low →
      is_from index low (get_or index.entries k d) ≡ false
  from_no None k d less = absurd (omega arith)
  from_no (Some low) k d less = ap not (before_place Before low k d less)

  up_to_yes : (high : Option (List ℕ)) (k : ℕ) (d : SeenEntry) → k < end_place index high →
      is_up_to index high (get_or index.entries k d) ≡ true
  up_to_yes None k d less = refl
  up_to_yes (Some high) k d less = le_not_gt _ ∙ before_place After high k d less

  up_to_no : (high : Option (List ℕ)) (k : ℕ) (d : SeenEntry) → k < length index.entries →
      end_place index high ≤ k → is_up_to index high (get_or index.entries k d) ≡ false
  up_to_no None k d within more = absurd (omega arith)
  up_to_no (Some high) k d within more = le_not_gt _ ∙ from_place After high k d within more

  end_within : (high : Option (List ℕ)) → end_place index high ≤ length index.entries
  end_within None = omega arith
  end_within (Some high) = count_by-le-length _ index.entries

  pub counts_places : CountsPlaces index
  counts_places low high =
      let short = end_within high in
      count_run (is_between index low high) index.entries (first_place index low)
      (end_place index high) (record {
        below = λ k d within less. first_fails _ _ (from_no low k d less);
        inside = λ k d within more less.
            both _ _ (from_yes low k d within more) (up_to_yes high k d less);
        above = λ k d within more. second_fails _ _ (up_to_no high k d within more);
      })
      ∙ omega (arith, short)

  IsFrom-to : (low : Option (List ℕ)) (entry : SeenEntry) → is_from index low entry ≡ true →
      IsFrom index low entry
  IsFrom-to None entry e = tt
  IsFrom-to (Some low) entry e = λ less. not_both _ e (ap (λ o. not (is_lt o)) less)

  IsFrom-back : (low : Option (List ℕ)) (entry : SeenEntry) → IsFrom index low entry →
      is_from index low entry ≡ false → ⊥
  IsFrom-back None entry h e = absurd cc
  IsFrom-back (Some low) entry h e = h (not_less _ e)

  IsUpTo-to : (high : Option (List ℕ)) (entry : SeenEntry) → is_up_to index high entry ≡ true →
      IsUpTo index high entry
  IsUpTo-to None entry e = tt
  IsUpTo-to (Some high) entry e = λ more. not_both _ e (ap (λ o. not (is_gt o)) more)

  IsUpTo-back : (high : Option (List ℕ)) (entry : SeenEntry) → IsUpTo index high entry →
      is_up_to index high entry ≡ false → ⊥
  IsUpTo-back None entry h e = absurd cc
  IsUpTo-back (Some high) entry h e = h (not_greater _ e)

  pub places_between : PlacesAreBetween index
  places_between low high place d within = (
    λ at. (
      IsFrom-to low _ (from_yes low place d within at.0),
      IsUpTo-to high _ (up_to_yes high place d at.1),
    ),
    λ between. (
      ⊎_elim (λ below. absurd (IsFrom-back low _ between.0 (from_no low place d below)))
          (λ above. above) (cases_lt place (first_place index low)),
      ⊎_elim (λ below. below)
          (λ above. absurd (IsUpTo-back high _ between.1 (up_to_no high place d within above)))
          (cases_lt place (end_place index high)),
    ),
  )

  not_turned : (entry : SeenEntry) (low high : List ℕ) →
      list_order index.pad index.space low high ≡ Greater →
      IsBetween index (Some low) (Some high) entry → ⊥
  not_turned entry low high turned between =
      let total = lists index.pad index.space in
      between.0 (less_behind (list_order index.pad index.space) total entry.weights high low
      (list_order index.pad index.space entry.weights high) refl
      (not_true _ (λ e. between.1 (greater_from _ e)))
      (total.antisymm high low ∙ ap ordering_reverse turned))

  pub none_between : NoneBetweenTurned index
  none_between low high turned =
      count_run (is_between index (Some low) (Some high)) index.entries 0 0 (record {
        below = λ k d within less. absurd (omega arith);
        inside = λ k d within more less. absurd (omega arith);
        above = λ k d within more. not_true _ (λ e.
            let it = halves _ _ e in
            not_turned (get_or index.entries k d) low high turned (
              IsFrom-to (Some low) (get_or index.entries k d) it.0,
              IsUpTo-to (Some high) (get_or index.entries k d) it.1,
            ));
      })
      ∙ omega arith

  -- The places between two ends are as many as entries lie between them.
  pub counted_between : (low high : Option (List ℕ)) (first end count : ℕ) →
      first ≡ first_place index low → end ≡ end_place index high → count ≡ end - first →
      count ≡ count_between index low high
  counted_between low high first end count is_first is_end is =
      is ∙ ap (λ n. n - first) is_end ∙ ap (λ n. end_place index high - n) is_first
      ∙ sym (counts_places low high)
