-- Rows that nothing tells apart stay as they are.
use Rattle.std.proofs.Common.{◌≡◌, ℕ, ◌+◌, Bool, true, List, []}
use Rattle.std.proofs.Common.{ap, arith, length, subst, sym, ◌∙◌}
use Rattle.std.proofs.lemmas.Bool.{eqb-true}
use Rattle.std.proofs.lemmas.List.{nil_from_length}
use Rattle.std.specs.Prelude.{◌==◌}
use Rattle.std.proofs.lemmas.List.FromFn.{get_or-range_with_len, length-range_with_len}
use Rattle.std.proofs.lemmas.List.Sorted.{IsPermutation-refl}
use Rattle.std.proofs.lemmas.Map.Keys.{sorted_from_strictly_increasing}
use Rattle.std.specs.Cmp.{IsTotalOrder}
use Rattle.std.specs.List.{range_with_len}
use Rattle.std.specs.List.Sorted.{IsStrictlyIncreasing}
use Rattle.std.specs.declared.cmp.Ordering.{Ordering}
use Rattle.std.specs.declared.cmp.Ordering.TheVariants.{Equal}
use Rattle.mc_group.specs.Order.{AreSorted, place_order, row_order}
use Rattle.mc_group.specs.declared.kind.KeyKind.{KeyKind}
use Rattle.mc_order.specs.Meaning.{Meaning}
use Rattle.mc_values.specs.declared.value.Value.{Value}
use Rattle.mc_exec.specs.Ordered.{places_in_order}
use Rattle.mc_exec.proofs.Places.{places_are}

pub empty_of : {A : Type 0} (xs : List A) → true ≡ (length xs == 0) → xs ≡ []
empty_of xs e = nil_from_length xs (eqb-true (length xs) 0 (sym e))

range_rises : (n : ℕ) → IsStrictlyIncreasing (range_with_len 0 n)
range_rises n = λ k h.
    let len = length-range_with_len 0 n in
    let one = get_or-range_with_len 0 n k 0 (omega (arith, len, h)) in
    let next = get_or-range_with_len 0 n (k + 1) 0 (omega (arith, len, h)) in
    omega (arith, one, next)

pub every_place_sorted : (meaning : ℕ → Meaning) (rows : List (List Value))
    → AreSorted (row_order meaning [] []) rows (range_with_len 0 (length rows))
unfolding row_order
every_place_sorted meaning rows = record {
  all = IsPermutation-refl (range_with_len 0 (length rows));
  ascending = sorted_from_strictly_increasing (range_with_len 0 (length rows))
      (range_rises (length rows));
}

-- Where there are no keys, the places in order are all places.
pub every_place_is : (meaning : ℕ → Meaning) (kinds : List KeyKind) (directions : List Bool)
    (rows : List (List Value)) → kinds ≡ [] → directions ≡ []
    → IsTotalOrder (place_order (row_order meaning kinds directions) rows)
    → ((x y : ℕ) → place_order (row_order meaning kinds directions) rows x y ≡ Equal → x ≡ y)
    → range_with_len 0 (length rows) ≡ places_in_order (row_order meaning kinds directions) rows
every_place_is meaning kinds directions rows e f total ties =
    let order = row_order meaning kinds directions in
    let same : row_order meaning [] [] ≡ order =
    sym (ap (λ (k : List KeyKind). row_order meaning k directions) e
    ∙ ap (row_order meaning []) f) in
    places_are order rows total ties (range_with_len 0 (length rows))
    (subst (λ (o : List Value → List Value → Ordering). AreSorted o rows (range_with_len 0
    (length rows))) same (every_place_sorted meaning rows))
