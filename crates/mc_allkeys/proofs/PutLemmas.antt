-- Entries put one after the other.
use Rattle.std.proofs.Common.{◌≡◌, ◌≢◌, ℕ, ◌+◌, ◌<◌, List, [], length, Some, slice_index_or, cond, ◌⊎◌, inl, inr, refl, sym, ap, ◌∙◌, arith}
use Rattle.std.specs.Cmp.Lexicographic.{nat_list_cmp_total}
use Rattle.std.specs.FinMap as map
use Rattle.std.specs.FinMap.{get-insert}
use Rattle.std.proofs.lemmas.Bool.{cases_order}
use Rattle.std.proofs.lemmas.List.{get_or_read}
use Rattle.mc_allkeys.specs.Put.{IsPut}
use Rattle.mc_allkeys.specs.Table.{ElementTable, Entries}
use Rattle.mc_allkeys.specs.declared.element.Element.{Element}
use Rattle.mc_allkeys.proofs.EntryLemmas.{apart, same}

-- No two texts are one.
abbrev pub AreDifferent : List (List ℕ) → Type 0
AreDifferent texts = (i j : ℕ) → i < j → j < length texts →
    slice_index_or texts i [] ≢ slice_index_or texts j []

get_here : (m : Entries) (text : List ℕ) (v : List Element) →
    map.get (map.insert m text v) text ≡ Some v
get_here m text v =
    get-insert nat_list_cmp_total m text v text
    ∙ ap (λ b. cond b (Some v) (map.get m text)) (same text text refl)

get_there : (m : Entries) (text : List ℕ) (v : List Element) (q : List ℕ) → (q ≢ text) →
    map.get (map.insert m text v) q ≡ map.get m q
get_there m text v q n =
    get-insert nat_list_cmp_total m text v q
    ∙ ap (λ b. cond b (Some v) (map.get m q)) (apart q text n)

-- Before the first one.
pub put_none : (texts : List (List ℕ)) (elements : List (List Element)) (old new : ElementTable) →
    new ≡ old → IsPut texts elements 0 old new
put_none texts elements old new e = record {
  given = λ k h. absurd (omega arith);
  others = λ text h. ap (λ (t : ElementTable). map.get t.entries text) e;
  ranges = ap (λ (t : ElementTable). t.ranges) e;
}

given_by : (texts : List (List ℕ)) (elements : List (List Element)) (place : ℕ)
    (old new next : ElementTable) → IsPut texts elements place old new → AreDifferent texts →
    place < length texts →
    next.entries ≡ map.insert new.entries (slice_index_or texts place []) (slice_index_or elements place []) →
    (k : ℕ) → (k ≡ place) ⊎ ((k < place) ⊎ (place < k)) → k < place + 1 →
    map.get next.entries (slice_index_or texts k []) ≡ Some (slice_index_or elements k [])
given_by texts elements place old new next h differ within e k (inl is) lt =
    ap (λ (m : Entries). map.get m (slice_index_or texts k [])) e
    ∙ rw is (get_here new.entries (slice_index_or texts place []) (slice_index_or elements place []))
given_by texts elements place old new next h differ within e k (inr (inl less)) lt =
    ap (λ (m : Entries). map.get m (slice_index_or texts k [])) e
    ∙ get_there new.entries (slice_index_or texts place []) (slice_index_or elements place [])
    (slice_index_or texts k []) (differ k place less within)
    ∙ h.given k less
given_by texts elements place old new next h differ within e k (inr (inr more)) lt = absurd (omega arith)

-- One more.
pub put_more : (texts : List (List ℕ)) (elements : List (List Element)) (place : ℕ)
    (old new next : ElementTable) → IsPut texts elements place old new → AreDifferent texts →
    place < length texts →
    next.entries ≡ map.insert new.entries (slice_index_or texts place []) (slice_index_or elements place []) →
    next.ranges ≡ new.ranges → IsPut texts elements (place + 1) old next
put_more texts elements place old new next h differ within e r = record {
  given = λ k lt. given_by texts elements place old new next h differ within e k (cases_order k place) lt;
  others = λ text none.
      ap (λ (m : Entries). map.get m text) e
      ∙ get_there new.entries (slice_index_or texts place []) (slice_index_or elements place []) text
      (λ is. none place (omega arith) (sym is))
      ∙ h.others text (λ k lt. none k (omega arith));
  ranges = r ∙ h.ranges;
}

-- A member by its place, in the form that an index gives.
pub read_at : {X : Type 0} (xs ys : List X) (i : ℕ) (x t d : X) → i < length ys → xs ≡ ys →
    x ≡ slice_index_or xs i x → t ≡ x → t ≡ slice_index_or ys i d
read_at xs ys i x t d h e is by =
    let within : i < length xs = rw e h in
    by ∙ get_or_read xs i x within is d ∙ ap (λ (l : List _). slice_index_or l i d) e
