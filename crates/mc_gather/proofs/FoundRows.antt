-- The rows that an index has in intervals are those of the table that are found in them.
use Rattle.std.proofs.Common.{◌≡◌, ◌≢◌, ℕ, zero, suc, ◌+◌, ◌<◌, ◌≤◌, Bool, true, false, cond}
use Rattle.std.proofs.Common.{List, [], ◌∷◌, ◌++◌, Some, None, length, get_or, map, refl, sym, ap}
use Rattle.std.proofs.Common.{subst, ◌∙◌, inl, inr, arith}
use Rattle.std.proofs.lemmas.Bool.{and_from, and_parts, or_cases, or_left, or_right}
use Rattle.std.proofs.lemmas.Cmp.{nat_cmp_total}
use Rattle.std.proofs.lemmas.List.{append_assoc, get_or_at, get_or_default, length_push}
use Rattle.std.proofs.lemmas.Map.Keys.{sorted_from_strictly_increasing}
use Rattle.std.proofs.lemmas.List.Sorted.{IsPermutation-sym}
use Rattle.std.specs.List.{Contains, filter}
use Rattle.std.specs.List.Sorted.{IsStrictlyIncreasing, IsStrictlySortedBy}
use Rattle.std.specs.Option.{option_map_or, option_to_list}
use Rattle.std.specs.Ordering.{is_ge, is_le, nat_cmp}
use Rattle.std.specs.Prelude.{All, IfSome, Option, option_map}
use Rattle.std.specs.declared.cmp.Ordering.{Ordering}
use Rattle.std.specs.declared.cmp.Ordering.TheVariants.{Less, Equal, Greater}
use Rattle.mc_catalog.specs.declared.catalog.ColumnDecl.{ColumnDecl}
use Rattle.mc_catalog.specs.declared.catalog.IndexDecl.{IndexDecl}
use Rattle.mc_charset.specs.Chars.{chars}
use Rattle.mc_charset.specs.declared.collation_id.CollId.{CollId}
use Rattle.mc_index.specs.Entries.{IsSealed, SeenEntry, SeenIndex}
use Rattle.mc_index.specs.Laws.{IsBetween, IsFrom, IsUpTo}
use Rattle.mc_key.specs.Keys.{kept_list}
use Rattle.mc_key.specs.Laws.{KeptComparesAlike}
use Rattle.mc_order.specs.Meaning.{Meaning}
use Rattle.mc_order.specs.Order.{list_order}
use Rattle.mc_order.specs.declared.pad.Pad.{Pad}
use Rattle.mc_range.specs.Finds.{index_list}
use Rattle.mc_range.specs.declared.interval.Interval.{Interval}
use Rattle.mc_values.specs.declared.value.Value.{Value}
use Rattle.mc_values.specs.declared.value.Value.TheVariants as value
use Rattle.mc_plan.specs.Entries.{is_found, is_from, is_in, is_in_one, is_up_to, value_at}
use Rattle.mc_plan.specs.Plans.{index_collation}
use Rattle.mc_gather.specs.IndexLaws.{ThroughIsFound, ThroughIsInTable, ThroughIsOne, rows_of}
use Rattle.mc_gather.specs.Indexed.{IsIndexOf, entries_from, gathered, text_of, weights_of}
use Rattle.mc_gather.specs.Through.{AreRowsThrough, IsWithin}
use Rattle.mc_gather.proofs.Covered.{in_either, in_from, in_left, in_right, in_to}
use Rattle.mc_gather.proofs.Sorted.{In, all_in, in_permutation, one_list}

-- One list

pub one_ascending : (xs ys : List ℕ) → IsStrictlyIncreasing xs → IsStrictlyIncreasing ys
    → ((q : ℕ) → Contains xs q → Contains ys q) → ((q : ℕ) → Contains ys q → Contains xs q)
    → xs ≡ ys
one_ascending xs ys a b f g =
    one_list nat_cmp nat_cmp_total xs ys (sorted_from_strictly_increasing xs a)
    (sorted_from_strictly_increasing ys b)
    (λ q i. let c = f q (in_to q xs i) in in_from q ys c.0 c.1 c.2)
    (λ q i. let c = g q (in_to q ys i) in in_from q xs c.0 c.1 c.2)

pub through_is_one : ThroughIsOne
through_is_one index intervals rows others a b =
    one_ascending rows others a.ascending b.ascending
    (λ q c. (b.exact q).1 ((a.exact q).0 c)) (λ q c. (a.exact q).1 ((b.exact q).0 c))

-- The places where members pass a test

-- The numbers of members that pass, counted from here on.
places_where : {A : Type 0} → (A → Bool) → ℕ → List A → List ℕ
places_where test n [] = []
places_where test n (x ∷ xs) =
    elim (test x) [ true ↦ n ∷ places_where test (suc n) xs | false ↦ places_where test (suc n) xs ]

module _ {A : Type 0} (test : A → Bool) where
  abbrev with_place : Bool → ℕ → List ℕ → List ℕ
  with_place b n places = elim b [ true ↦ n ∷ places | false ↦ places ]

  where_low : (n : ℕ) (xs : List A) (p : ℕ) → In p (places_where test n xs) → n ≤ p
  unfolding places_where
  where_low n [] p i = absurd i
  where_low n (x ∷ xs) p i = elim (test x) as (λ b.
      In p (with_place b n (places_where test (suc n) xs)) → n ≤ p) [
        | true ↦ λ j. elim j as (λ w. n ≤ p) [
          | inl e ↦ omega (arith, e)
          | inr k ↦ let low = where_low (suc n) xs p k in omega (arith, low)
        ]
        | false ↦ λ j. let low = where_low (suc n) xs p j in omega (arith, low)
      ] i

  less_is : (x y : ℕ) → x < y → nat_cmp x y ≡ Less
  less_is x y h = grind (arith, h)

  where_ascends : (n : ℕ) (xs : List A) → IsStrictlySortedBy nat_cmp (places_where test n xs)
  unfolding places_where IsStrictlySortedBy
  where_ascends n [] = tt
  where_ascends n (x ∷ xs) = elim (test x) as (λ b.
      IsStrictlySortedBy nat_cmp (with_place b n (places_where test (suc n) xs))) [
        | true ↦ (
          all_in (λ p. nat_cmp n p ≡ Less) (places_where test (suc n) xs)
              (λ p i. less_is n p (let low = where_low (suc n) xs p i in omega (arith, low))),
          where_ascends (suc n) xs,
        )
        | false ↦ where_ascends (suc n) xs
      ]

  -- The members at these places are those that pass.
  at_places : (d : A) (all front xs : List A) → all ≡ front ++ xs
      → map (λ p. get_or all p d) (places_where test (length front) xs) ≡ filter test xs
  unfolding places_where
  at_places d all front [] e = refl
  at_places d all front (x ∷ xs) e =
      let longer : all ≡ (front ++ x ∷ []) ++ xs = e ∙ sym (append_assoc front (x ∷ []) xs) in
      let n = length_push front x in
      let rest : map (λ p. get_or all p d) (places_where test (suc (length front)) xs)
      ≡ filter test xs = ap (λ k. map (λ p. get_or all p d) (places_where test k xs))
      (sym (n ∙ omega arith)) ∙ at_places d all (front ++ x ∷ []) xs longer in
      let here : get_or all (length front) d ≡ x =
      ap (λ l. get_or l (length front) d) e ∙ get_or_at front x xs d (length front) refl in
      elim (test x) as (λ b. map (λ p. get_or all p d)
      (with_place b (length front) (places_where test (suc (length front)) xs))
      ≡ cond b (x ∷ filter test xs) (filter test xs)) [
        | true ↦
            ap (λ y. y ∷ map (λ p. get_or all p d) (places_where test (suc (length front)) xs)) here
            ∙ ap (λ l. x ∷ l) rest
        | false ↦ rest
      ]

  -- A member that passes stands at such a place, and no other.
  where_in : (n k : ℕ) (d : A) (xs : List A) → k < length xs → test (get_or xs k d) ≡ true
      → In (n + k) (places_where test n xs)
  unfolding places_where
  where_in n k d [] within e = absurd (omega arith)
  where_in n zero d (x ∷ xs) within e =
      subst (λ b. In (n + zero) (with_place b n (places_where test (suc n) xs))) (sym e)
      (inl (omega arith))
  where_in n (suc k) d (x ∷ xs) within e =
      let there = subst (λ m. In m (places_where test (suc n) xs)) (omega arith)
      (where_in (suc n) k d xs (omega (arith, within)) e) in
      elim (test x) as (λ b. In (n + suc k) (with_place b n (places_where test (suc n) xs))) [
        | true ↦ inr there
        | false ↦ there
      ]

  where_from : (n p : ℕ) (d : A) (xs : List A) → In p (places_where test n xs)
      → (k : ℕ) × ((k < length xs) × ((p ≡ n + k) × (test (get_or xs k d) ≡ true)))
  unfolding places_where
  where_from n p d [] i = absurd i
  where_from n p d (x ∷ xs) i = elim (test x) as (λ b. test x ≡ b
      → In p (with_place b n (places_where test (suc n) xs))
      → (k : ℕ) × ((k < length (x ∷ xs)) × ((p ≡ n + k) × (test (get_or (x ∷ xs) k d) ≡ true)))) [
        | true ↦ λ e j. elim j as (λ w. (k : ℕ)
            × ((k < length (x ∷ xs)) × ((p ≡ n + k) × (test (get_or (x ∷ xs) k d) ≡ true)))) [
              | inl f ↦ (zero, (omega arith, (omega (arith, f), e)))
              | inr l ↦
                  let r = where_from (suc n) p d xs l in
                  (suc r.0, (omega (arith, r.1.0), (omega (arith, r.1.1.0), r.1.1.1)))
            ]
        | false ↦ λ e j.
            let r = where_from (suc n) p d xs j in
            (suc r.0, (omega (arith, r.1.0), (omega (arith, r.1.1.0), r.1.1.1)))
      ] refl i

-- Intervals

from_to_is : (o : Ordering) → o ≢ Less → is_ge o ≡ true
from_to_is Less h = absurd (h refl)
from_to_is Equal h = refl
from_to_is Greater h = refl

from_is : (o : Ordering) → is_ge o ≡ true → o ≢ Less
from_is Less e f = absurd (cc)
from_is Equal e f = cc
from_is Greater e f = cc

up_to_is : (o : Ordering) → o ≢ Greater → is_le o ≡ true
up_to_is Less h = refl
up_to_is Equal h = refl
up_to_is Greater h = absurd (h refl)

is_up : (o : Ordering) → is_le o ≡ true → o ≢ Greater
is_up Less e f = cc
is_up Equal e f = cc
is_up Greater e f = absurd (cc)

-- The key of an entry, and the list that it keeps.
pub record KeyOf (m : Meaning) (held : SeenIndex) (entry : SeenEntry) (list : List ℕ) : Type 0 where
  pub alike : (other : List ℕ)
      → list_order held.pad held.space entry.weights other ≡ list_order m.pad m.space list other

module _ (m : Meaning) (held : SeenIndex) (entry : SeenEntry) (list : List ℕ)
    (key : KeyOf m held entry list) where
  low_in : (low : Option (List ℕ)) → IsFrom held low entry → is_from m list low ≡ true
  low_in None h = refl
  low_in (Some low) h = ap is_ge (sym (key.alike low))
      ∙ from_to_is (list_order held.pad held.space entry.weights low) h

  in_low : (low : Option (List ℕ)) → is_from m list low ≡ true → IsFrom held low entry
  in_low None e = tt
  in_low (Some low) e = from_is (list_order held.pad held.space entry.weights low)
      (ap is_ge (key.alike low) ∙ e)

  high_in : (high : Option (List ℕ)) → IsUpTo held high entry → is_up_to m list high ≡ true
  high_in None h = refl
  high_in (Some high) h = ap is_le (sym (key.alike high))
      ∙ up_to_is (list_order held.pad held.space entry.weights high) h

  in_high : (high : Option (List ℕ)) → is_up_to m list high ≡ true → IsUpTo held high entry
  in_high None e = tt
  in_high (Some high) e = is_up (list_order held.pad held.space entry.weights high)
      (ap is_le (key.alike high) ∙ e)

  any_in : (intervals : List Interval) (interval : Interval) → In interval intervals
      → IsBetween held interval.lo interval.hi entry → is_in_one m list intervals ≡ true
  any_in [] interval i b = absurd i
  any_in (x ∷ xs) interval (inl e) b =
      let here = and_from (is_from m list interval.lo) (is_up_to m list interval.hi)
      (low_in interval.lo b.0) (high_in interval.hi b.1) in
      or_left (is_in m list x) (is_in_one m list xs)
      (subst (λ (y : Interval). is_in m list y ≡ true) e here)
  any_in (x ∷ xs) interval (inr i) b =
      or_right (is_in m list x) (is_in_one m list xs) (any_in xs interval i b)

  in_any : (intervals : List Interval) → is_in_one m list intervals ≡ true
      → (interval : Interval) × (In interval intervals
      × IsBetween held interval.lo interval.hi entry)
  in_any [] e = absurd (cc)
  in_any (x ∷ xs) e = elim (or_cases (is_in m list x) (is_in_one m list xs) e) as (λ w.
      (interval : Interval) × (In interval (x ∷ xs)
      × IsBetween held interval.lo interval.hi entry)) [
        | inl f ↦
            let parts = and_parts (is_from m list x.lo) (is_up_to m list x.hi) f in
            (x, (inl refl, (in_low x.lo parts.0, in_high x.hi parts.1)))
        | inr f ↦ let rest = in_any xs f in (rest.0, (inr rest.1.0, rest.1.1))
      ]

  within_is : (intervals : List Interval) → IsWithin held intervals entry
      → is_in_one m list intervals ≡ true
  within_is intervals w =
      any_in intervals w.0 (in_from w.0 intervals w.1.0 w.1.1 w.1.2) w.2

  is_within : (intervals : List Interval) → is_in_one m list intervals ≡ true
      → IsWithin held intervals entry
  is_within intervals e = let f = in_any intervals e in (f.0, in_to f.0 intervals f.1.0, f.1.1)

-- Entries of rows

module _ (bounds : KeptComparesAlike) (m : Meaning) (index : IndexDecl) (rows : List (List Value))
    (held : SeenIndex) (sealed : IsSealed (gathered m index rows) held) (intervals : List Interval)
  where
    abbrev passes : List Value → Bool
    passes row = is_found m index.prefix intervals (value_at row index.column)

    same_order : (pad other : Pad) (space more : ℕ) → pad ≡ other → space ≡ more
        → (list bound : List ℕ) → list_order pad space list bound ≡ list_order other more list bound
    same_order pad other space more e f list bound =
        ap (λ p. list_order p space list bound) e ∙ ap (λ s. list_order other s list bound) f

    key_of : (number : ℕ) (list : List ℕ)
        → KeyOf m held (record { weights = kept_list m.pad m.space list; row = number }) list
    key_of number list = record {
      alike = λ other. same_order held.pad m.pad held.space m.space sealed.pad sealed.space
          (kept_list m.pad m.space list) other ∙ bounds m.pad m.space list other;
    }

    abbrev entry_in : ℕ → Value → List SeenEntry
    entry_in number v = option_to_list (option_map
        (λ text. record { weights = weights_of m index.prefix text; row = number }) (text_of v))

    -- What a row's entry is.
    entry_found : (number : ℕ) (v : Value) (entry : SeenEntry) → In entry (entry_in number v)
        → (entry.row ≡ number) × (IsWithin held intervals entry
        → is_found m index.prefix intervals v ≡ true)
    entry_found number value.Null entry i = absurd i
    entry_found number (value.Int x) entry i = absurd i
    entry_found number (value.Str set text) entry (inr i) = absurd i
    entry_found number (value.Str set text) entry (inl e) =
        let list = index_list m index.prefix (chars m.charset text) in (
          ap (λ (x : SeenEntry). x.row) e,
          (λ w. within_is m held (record { weights = kept_list m.pad m.space list; row = number })
              list (key_of number list) intervals (subst (IsWithin held intervals) e w)),
        )

    found_entry : (number : ℕ) (v : Value) → is_found m index.prefix intervals v ≡ true
        → (entry : SeenEntry) × (In entry (entry_in number v) × ((entry.row ≡ number)
        × IsWithin held intervals entry))
    found_entry number value.Null e = absurd (cc)
    found_entry number (value.Int x) e = absurd (cc)
    found_entry number (value.Str set text) e =
        let list = index_list m index.prefix (chars m.charset text) in
        let entry : SeenEntry = record { weights = kept_list m.pad m.space list; row = number } in
        (entry, (inl refl, (refl, is_within m held entry list (key_of number list) intervals e)))

    -- Each entry is that of a row.
    entry_at : (n : ℕ) (d : List Value) (xs : List (List Value)) (entry : SeenEntry)
        → In entry (entries_from m index n xs)
        → (k : ℕ) × ((k < length xs) × ((entry.row ≡ n + k)
        × (IsWithin held intervals entry → passes (get_or xs k d) ≡ true)))
    unfolding entries_from
    entry_at n d [] entry i = absurd i
    entry_at n d (x ∷ xs) entry i = elim (in_either entry (entry_in n (value_at x index.column))
        (entries_from m index (suc n) xs) i) as (λ w. (k : ℕ) × ((k < length (x ∷ xs))
        × ((entry.row ≡ n + k) × (IsWithin held intervals entry
        → passes (get_or (x ∷ xs) k d) ≡ true)))) [
          | inl j ↦
              let r = entry_found n (value_at x index.column) entry j in
              (zero, (omega arith, (r.0 ∙ omega arith, r.1)))
          | inr j ↦
              let r = entry_at (suc n) d xs entry j in
              (suc r.0, (omega (arith, r.1.0), (r.1.1.0 ∙ omega arith, r.1.1.1)))
        ]

    at_entry : (n k : ℕ) (d : List Value) (xs : List (List Value)) → k < length xs
        → passes (get_or xs k d) ≡ true
        → (entry : SeenEntry) × (In entry (entries_from m index n xs) × ((entry.row ≡ n + k)
        × IsWithin held intervals entry))
    unfolding entries_from
    at_entry n k d [] within e = absurd (omega arith)
    at_entry n zero d (x ∷ xs) within e =
        let r = found_entry n (value_at x index.column) e in (
          r.0,
          (
            in_left r.0 (entry_in n (value_at x index.column))
                (entries_from m index (suc n) xs) r.1.0,
            (r.1.1.0 ∙ omega arith, r.1.1.1),
          ),
        )
    at_entry n (suc k) d (x ∷ xs) within e =
        let r = at_entry (suc n) k d xs (omega (arith, within)) e in (
          r.0,
          (
            in_right r.0 (entry_in n (value_at x index.column))
                (entries_from m index (suc n) xs) r.1.0,
            (r.1.1.0 ∙ omega arith, r.1.1.1),
          ),
        )

    module _ (numbers : List ℕ) (through : AreRowsThrough held intervals numbers) where
      row_at : (p : ℕ) → Contains numbers p
          → (k : ℕ) × ((k < length rows) × ((p ≡ k) × (passes (get_or rows k []) ≡ true)))
      row_at p c =
          let reached = (through.exact p).0 c in
          let i = in_from reached.0 held.entries reached.1.0 reached.1.1 reached.1.2 in
          let j = in_permutation (entries_from m index 0 rows) held.entries sealed.all reached.0 i
          in
          let r = entry_at 0 [] rows reached.0 j in
          (r.0, (r.1.0, (sym reached.2 ∙ r.1.1.0 ∙ omega arith, r.1.1.1 reached.3)))

      pub in_table : All (λ number. number < length rows) numbers
      in_table k d within =
          let r = row_at (get_or numbers k d) (k, within, get_or_default numbers k _ d within) in
          omega (arith, r.1.0, r.1.1.0)

      into : (p : ℕ) → Contains numbers p → In p (places_where passes 0 rows)
      into p c =
          let r = row_at p c in
          subst (λ q. In q (places_where passes 0 rows)) (omega (arith, r.1.1.0))
          (where_in passes 0 r.0 [] rows r.1.0 r.1.1.1)

      back : (p : ℕ) → In p (places_where passes 0 rows) → Contains numbers p
      back p i =
          let r = where_from passes 0 p [] rows i in
          let e = at_entry 0 r.0 [] rows r.1.0 r.1.1.1 in
          let j = in_permutation held.entries (entries_from m index 0 rows)
          (IsPermutation-sym (entries_from m index 0 rows) held.entries sealed.all) e.0 e.1.0 in
          (through.exact p).1 (e.0, in_to e.0 held.entries j, e.1.1.0 ∙ sym r.1.1.0, e.1.1.1)

      numbers_are : numbers ≡ places_where passes 0 rows
      numbers_are = one_list nat_cmp nat_cmp_total numbers (places_where passes 0 rows)
          (sorted_from_strictly_increasing numbers through.ascending) (where_ascends passes 0 rows)
          (λ q i. into q (in_to q numbers i))
          (λ q i. let c = back q i in in_from q numbers c.0 c.1 c.2)

      pub rows_found : rows_of rows numbers ≡ filter passes rows
      rows_found = ap (rows_of rows) numbers_are ∙ at_places passes [] rows [] rows refl

sealed_by : (meaning : ℕ → Meaning) (columns : List ColumnDecl) (rows : List (List Value))
    (index : IndexDecl) (coll : CollId) (held : SeenIndex)
    → index_collation columns index ≡ Some coll → IsIndexOf meaning columns rows index held
    → IsSealed (gathered (meaning coll.0) index rows) held
sealed_by meaning columns rows index coll held e h =
    subst (λ (o : Option CollId). IfSome o
    (λ id. IsSealed (gathered (meaning id.0) index rows) held)) e h

pub through_in_table : KeptComparesAlike → ThroughIsInTable
through_in_table bounds meaning columns rows index coll held intervals numbers e h through =
    in_table bounds (meaning coll.0) index rows held
    (sealed_by meaning columns rows index coll held e h) intervals numbers through

pub through_found : KeptComparesAlike → ThroughIsFound
through_found bounds meaning columns rows index coll held intervals numbers e h through =
    rows_found bounds (meaning coll.0) index rows held
    (sealed_by meaning columns rows index coll held e h) intervals numbers through
    ∙ ap (λ (o : Option CollId). filter (λ row. option_map_or
    (λ id. is_found (meaning id.0) index.prefix intervals (value_at row index.column)) o false)
    rows)
    (sym e)
