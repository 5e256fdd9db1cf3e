-- Where a list has to be put among ascending ones.
use Rattle.std.proofs.Common.{◌≡◌, ℕ, zero, suc, ◌+◌, ◌<◌, ◌≤◌, List, [], ◌∷◌, length, map}
use Rattle.std.proofs.Common.{filter, slice_index_or, refl, sym, ap, subst, ◌∙◌, ⊎_elim, arith}
use Rattle.std.proofs.lemmas.Bool.{cases_lt}
use Rattle.std.specs.Cmp.{IsTotalOrder}
use Rattle.std.specs.Ordering.{ordering_reverse}
use Rattle.std.specs.declared.cmp.Ordering.{Ordering}
use Rattle.std.specs.declared.cmp.Ordering.TheVariants.{Less, Equal, Greater}
use Rattle.mc_order.specs.Ascending.{Rises, IsAscending-from_rises, rises_ascending}
use Rattle.mc_order.specs.Laws.{IsAscending}
use Rattle.mc_order.specs.Order.{list_order}
use Rattle.mc_order.specs.Tails.{insert_list, ascending, has_members, tails_of}
use Rattle.mc_order.specs.declared.pad.Pad.TheVariants.{NoPad}
use Rattle.mc_uca.proofs.TailSteps.{insert-end, insert-before, insert-same, insert-behind}
use Rattle.mc_uca.specs.Inserts.{inserts, tails_with, AreAscending, IsPlace}

-- Tails are ascending, and stay so with more of them.
pub tails_of-ascending : (first : List ℕ → List ℕ) (texts : List (List ℕ)) →
    AreAscending (tails_of first texts)
unfolding tails_of
tails_of-ascending first texts = (_, refl)

inserts-ascending : (xs lists : List (List ℕ)) → AreAscending lists →
    AreAscending (inserts xs lists)
unfolding ascending
inserts-ascending [] lists h = h
inserts-ascending (x ∷ xs) lists h =
    let k = inserts-ascending xs lists h in (x ∷ k.0, ap (insert_list x) k.1)

pub tails_with-ascending : (first : List ℕ → List ℕ) (prefixes lists : List (List ℕ)) →
    AreAscending lists → AreAscending (tails_with first prefixes lists)
tails_with-ascending first prefixes lists h =
    inserts-ascending (filter has_members (map first prefixes)) lists h

pub in_order : (lists : List (List ℕ)) → AreAscending lists → IsAscending lists
in_order lists h =
    IsAscending-from_rises lists (subst Rises (sym h.1) (rises_ascending h.0))

-- The list stands behind each of the first ones.
abbrev pub IsBehind : List ℕ → List (List ℕ) → ℕ → Type 0
IsBehind list lists n =
    (k : ℕ) → k < n → list_order NoPad 0 list (slice_index_or lists k []) ≡ Greater

-- A list that is before the one at a place, if there is one, and behind those before it.
pub place_is : (list : List ℕ) (lists : List (List ℕ)) (n : ℕ) → n ≤ length lists →
    IsBehind list lists n →
    (n < length lists → list_order NoPad 0 list (slice_index_or lists n []) ≡ Less) →
    IsPlace list lists n
place_is list [] zero le behind before = (omega arith, insert-end list)
place_is list [] (suc n) le behind before = absurd (omega arith)
place_is list (x ∷ xs) zero le behind before =
    (omega arith, insert-before list x xs (before (omega arith)))
place_is list (x ∷ xs) (suc n) le behind before =
    let rest = place_is list xs n (omega arith) (λ k lt. behind (suc k) (omega arith))
    (λ lt. before (omega arith)) in (
      le,
      insert-behind list x xs (behind 0 (omega arith)) ∙ ap (λ ys. x ∷ ys) rest.1,
    )

-- A list that is there.
pub stays : (list : List ℕ) (lists : List (List ℕ)) (n : ℕ) → n < length lists →
    IsBehind list lists n → list_order NoPad 0 list (slice_index_or lists n []) ≡ Equal →
    insert_list list lists ≡ lists
stays list [] n lt behind same = absurd (omega arith)
stays list (x ∷ xs) zero lt behind same = insert-same list x xs same
stays list (x ∷ xs) (suc n) lt behind same =
    insert-behind list x xs (behind 0 (omega arith))
    ∙ ap (λ ys. x ∷ ys) (stays list xs n (omega arith) (λ k l. behind (suc k) (omega arith)) same)

-- What is behind a list is behind all before it.
pub all_before : (list : List ℕ) (lists : List (List ℕ)) (n : ℕ) →
    IsTotalOrder (list_order NoPad 0) → IsAscending lists → n < length lists →
    list_order NoPad 0 list (slice_index_or lists n []) ≡ Greater → IsBehind list lists n
all_before list lists n total rising lt e = λ k below.
    let x = slice_index_or lists k [] in
    let y = slice_index_or lists n [] in
    let back : list_order NoPad 0 y list ≡ Less = total.antisymm y list ∙ ap ordering_reverse e in
    let less = total.trans x y list (rising k n below lt) back in
    total.antisymm list x ∙ ap ordering_reverse less

pub same_before : (list : List ℕ) (lists : List (List ℕ)) (n : ℕ) →
    IsTotalOrder (list_order NoPad 0) → IsAscending lists → n < length lists →
    list ≡ slice_index_or lists n [] → IsBehind list lists n
same_before list lists n total rising lt e = λ k below.
    let x = slice_index_or lists k [] in
    let less = subst (λ y. list_order NoPad 0 x y ≡ Less) (sym e) (rising k n below lt) in
    total.antisymm list x ∙ ap ordering_reverse less

pub one_more : (list : List ℕ) (lists : List (List ℕ)) (n : ℕ) → IsBehind list lists n →
    list_order NoPad 0 list (slice_index_or lists n []) ≡ Greater → IsBehind list lists (n + 1)
one_more list lists n behind e = λ k lt.
    ⊎_elim (λ less. behind k less)
    (λ not_less. (let same : k ≡ n = omega (arith, lt, not_less) in
    ap (λ j. list_order NoPad 0 list (slice_index_or lists j [])) same ∙ e)) (cases_lt k n)

at_any : (lists : List (List ℕ)) (n : ℕ) (y : List ℕ) → n < length lists →
    y ≡ slice_index_or lists n y → y ≡ slice_index_or lists n []
at_any [] n y lt e = absurd (omega arith)
at_any (x ∷ xs) zero y lt e = e
at_any (x ∷ xs) (suc n) y lt e = at_any xs n y (omega arith) e

-- What the order with the list at a place was told to be.
pub told : (list : List ℕ) (lists : List (List ℕ)) (n : ℕ) (item slice : List ℕ)
    (answer order : Ordering) → n < length lists → item ≡ slice_index_or lists n item →
    slice ≡ item → answer ≡ list_order NoPad 0 list slice → answer ≡ order →
    list_order NoPad 0 list (slice_index_or lists n []) ≡ order
told list lists n item slice answer order lt at is said e =
    ap (list_order NoPad 0 list) (sym (at_any lists n item lt at) ∙ sym is) ∙ sym said ∙ e

pub at_low : (list : List ℕ) (lists : List (List ℕ)) (high low : ℕ) → high ≡ low →
    (high < length lists → list_order NoPad 0 list (slice_index_or lists high []) ≡ Less) →
    low < length lists → list_order NoPad 0 list (slice_index_or lists low []) ≡ Less
at_low list lists high low e before =
    subst (λ n. n < length lists →
    list_order NoPad 0 list (slice_index_or lists n []) ≡ Less) e before
