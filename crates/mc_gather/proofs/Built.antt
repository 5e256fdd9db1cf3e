-- Indexes that are built, table by table.
use Rattle.std.proofs.Common.{◌≡◌, ℕ, zero, suc, ◌+◌, ◌*◌, ◌<◌, ◌≤◌, List, [], ◌∷◌, ◌++◌, Some}
use Rattle.std.proofs.Common.{None, length, take, get_or, refl, sym, ap, subst, ◌∙◌, inl, inr}
use Rattle.std.proofs.Common.{arith, add-one}
use Rattle.std.proofs.lemmas.Bool.{cases_lt}
use Rattle.std.proofs.lemmas.List.{take_more}
use Rattle.std.proofs.lemmas.List.Sums.{sum_by-cons, sum_by-take-le}
use Rattle.std.specs.List.{AllZip, sum_by, zip}
use Rattle.std.specs.Option.{option_map_or}
use Rattle.std.specs.Prelude.{IfSome, IsSomeAnd, Option, slice_get}
use Rattle.mc_catalog.specs.declared.catalog.Catalog.{Catalog}
use Rattle.mc_catalog.specs.declared.catalog.TableDecl.{TableDecl}
use Rattle.mc_index.specs.Entries.{SeenIndex}
use Rattle.mc_order.specs.Meaning.{Meaning}
use Rattle.mc_values.specs.declared.value.Value.{Value}
use Rattle.mc_gather.specs.Building.{AreBuilt, HasIndexesAt, fetches_at, fetches_before}
use Rattle.mc_gather.specs.Indexed.{AreIndexesOf, FitBook, IsIndexOf, index_fetches, rows_in}
use Rattle.mc_gather.specs.Tables.{HaveIndexes}
use Rattle.mc_gather.proofs.Zipped.{zip_length}

zip_push : {A B : Type 0} (R : A → B → Type 0) (xs : List A) (ys : List B) (x : A) (y : B)
    → AllZip R xs ys → R x y → AllZip R (xs ++ x ∷ []) (ys ++ y ∷ [])
zip_push R [] [] x y h r = (r, tt)
zip_push R [] (z ∷ ys) x y h r = absurd h
zip_push R (w ∷ xs) [] x y h r = absurd h
zip_push R (w ∷ xs) (z ∷ ys) x y h r = (h.0, zip_push R xs ys x y h.1 r)

-- One more of those that are declared.
pub zip_more : {A B : Type 0} (R : A → B → Type 0) (xs : List A) (i : ℕ) (x : A)
    (old new : List B) (y : B) → i < length xs → x ≡ get_or xs i x → AllZip R (take i xs) old
    → R x y → new ≡ old ++ y ∷ [] → AllZip R (take (i + 1) xs) new
zip_more R xs i x old new y within at h r e =
    subst (AllZip R (take (i + 1) xs)) (sym e)
    (subst (λ l. AllZip R l (old ++ y ∷ []))
    (sym (take_more xs i x within ∙ ap (λ z. take i xs ++ z ∷ []) (sym at)))
    (zip_push R (take i xs) old x y h r))

get_pushed : {A : Type 0} (xs : List A) (x : A) (i : ℕ) → length xs ≡ i
    → slice_get (xs ++ x ∷ []) i ≡ Some x
get_pushed [] x zero e = refl
get_pushed [] x (suc i) e = absurd (omega (arith, e))
get_pushed (y ∷ xs) x zero e = absurd (omega (arith, e))
get_pushed (y ∷ xs) x (suc i) e = get_pushed xs x i (omega (arith, e))

get_before : {A : Type 0} (xs : List A) (x : A) (i : ℕ) → i < length xs
    → slice_get (xs ++ x ∷ []) i ≡ slice_get xs i
get_before [] x i h = absurd (omega (arith, h))
get_before (y ∷ xs) x zero h = refl
get_before (y ∷ xs) x (suc i) h = get_before xs x i (omega (arith, h))

length_more : {A : Type 0} (xs : List A) (x : A) → length (xs ++ x ∷ []) ≡ suc (length xs)
length_more [] x = refl
length_more (y ∷ xs) x = ap suc (length_more xs x)

module _ (meaning : ℕ → Meaning) (c : Catalog) (rows : List (List (List Value))) where
  pub none_built : (held : List (List SeenIndex)) → held ≡ [] → AreBuilt meaning c rows 0 held
  none_built held e = record {
    counted = ap length e;
    each = λ place low. absurd (omega (arith, low));
  }

  -- The indexes of one more table.
  pub one_built : (place : ℕ) (old new : List (List SeenIndex)) (held : List SeenIndex)
      → AreBuilt meaning c rows place old → HasIndexesAt meaning c rows place held
      → new ≡ old ++ held ∷ [] → AreBuilt meaning c rows (place + 1) new
  one_built place old new held built here e = record {
    counted = ap length e ∙ length_more old held ∙ ap suc built.counted ∙ sym (add-one place);
    each = λ p low. elim (cases_lt p place) as (λ w. IsSomeAnd (slice_get new p)
        (HasIndexesAt meaning c rows p)) [
          | inl less ↦
              let count = built.counted in
              subst (λ (o : Option (List SeenIndex)). IsSomeAnd o (HasIndexesAt meaning c rows p))
              (sym (ap (λ l. slice_get l p) e ∙ get_before old held p (omega (arith, less, count))))
              (built.each p less)
          | inr past ↦
              let is : place ≡ p = omega (arith, low, past) in
              let at : slice_get new p ≡ Some held =
              ap (λ l. slice_get l p) e ∙ get_pushed old held p (built.counted ∙ is) in
              subst (λ (o : Option (List SeenIndex)). IsSomeAnd o (HasIndexesAt meaning c rows p))
              (sym at) (subst (λ q. HasIndexesAt meaning c rows q held) is here)
        ];
  }

  fit_at : (o : Option (List SeenIndex)) (place : ℕ) (table : TableDecl)
      → slice_get c.tables place ≡ Some table → IsSomeAnd o (HasIndexesAt meaning c rows place)
      → IsSomeAnd o (AreIndexesOf meaning (rows_in rows place) table)
  fit_at None place table e h = absurd h
  fit_at (Some held) place table e h =
      subst (λ (o : Option TableDecl). IfSome o
      (λ t. AreIndexesOf meaning (rows_in rows place) t held)) e h

  table_below : (tables : List TableDecl) (place : ℕ) (table : TableDecl)
      → slice_get tables place ≡ Some table → place < length tables
  table_below [] place table e = absurd (cc)
  table_below (t ∷ tables) zero table e = omega arith
  table_below (t ∷ tables) (suc place) table e =
      let low = table_below tables place table e in omega (arith, low)

  -- Indexes of all tables fit the book.
  pub all_fit : (held : List (List SeenIndex)) → AreBuilt meaning c rows (length c.tables) held
      → FitBook c meaning rows held
  all_fit held built place table e =
      fit_at (slice_get held place) place table e
      (built.each place (table_below c.tables place table e))

  counted_at : (o : Option (List SeenIndex)) (these : List (List Value)) (table : TableDecl)
      → IsSomeAnd o (AreIndexesOf meaning these table)
      → IsSomeAnd o (λ held. length held ≡ length table.indexes)
  counted_at None these table h = absurd h
  counted_at (Some held) these table h =
      zip_length (IsIndexOf meaning table.columns these) table.indexes held h

  by_places : (tables : List TableDecl) (held : List (List SeenIndex)) → length held ≡ length tables
      → ((place : ℕ) (table : TableDecl) → slice_get tables place ≡ Some table
      → IsSomeAnd (slice_get held place) (λ it. length it ≡ length table.indexes))
      → AllZip (λ (table : TableDecl) (it : List SeenIndex). length it ≡ length table.indexes)
      tables held
  by_places [] [] e h = tt
  by_places [] (it ∷ held) e h = absurd (omega (arith, e))
  by_places (table ∷ tables) [] e h = absurd (omega (arith, e))
  by_places (table ∷ tables) (it ∷ held) e h =
      (h 0 table refl, by_places tables held (omega (arith, e)) (λ place t f. h (suc place) t f))

  pub have_indexes : (held : List (List SeenIndex))
      → AreBuilt meaning c rows (length c.tables) held → HaveIndexes c held
  have_indexes held built = by_places c.tables held built.counted (λ place table e.
      counted_at (slice_get held place) (rows_in rows place) table
      (all_fit held built place table e))

-- How many rows are fetched

abbrev cost : TableDecl × List (List Value) → ℕ
cost pair = length pair.0.indexes * length pair.1

cost_at : List TableDecl → List (List (List Value)) → ℕ → ℕ
cost_at tables rows place = option_map_or
    (λ (table : TableDecl). length table.indexes * length (rows_in rows place))
    (slice_get tables place) 0

costs_more : (tables : List TableDecl) (rows : List (List (List Value))) (place : ℕ)
    → place < length tables → length rows ≡ length tables
    → sum_by cost (take (suc place) (zip tables rows))
    ≡ sum_by cost (take place (zip tables rows)) + cost_at tables rows place
unfolding cost_at
costs_more [] rows place low e = absurd (omega (arith, low))
costs_more (table ∷ tables) [] place low e = absurd (omega (arith, e))
costs_more (table ∷ tables) (these ∷ rows) zero low e =
    sum_by-cons cost (table, these) [] ∙ omega arith
costs_more (table ∷ tables) (these ∷ rows) (suc place) low e =
    let one = sum_by-cons cost (table, these) (take (suc place) (zip tables rows)) in
    let other = sum_by-cons cost (table, these) (take place (zip tables rows)) in
    let rest = costs_more tables rows place (omega (arith, low)) (omega (arith, e)) in
    omega (arith, one, other, rest)

pub fetched_more : (c : Catalog) (rows : List (List (List Value))) (place : ℕ)
    → place < length c.tables → length rows ≡ length c.tables
    → fetches_before c rows (place + 1) ≡ fetches_before c rows place + fetches_at c rows place
unfolding cost_at
fetched_more c rows place low e =
    ap (fetches_before c rows) (add-one place) ∙ costs_more c.tables rows place low e

pub fetched_within : (c : Catalog) (rows : List (List (List Value))) (place : ℕ)
    → fetches_before c rows place ≤ index_fetches c rows
fetched_within c rows place = sum_by-take-le cost (zip c.tables rows) place

-- Steps for one more table.
pub steps_more : (c : Catalog) (rows : List (List (List Value))) (place start old new : ℕ)
    → place < length c.tables → length rows ≡ length c.tables
    → old ≤ start + fetches_before c rows place → new ≤ old + fetches_at c rows place
    → new ≤ start + fetches_before c rows (place + 1)
steps_more c rows place start old new low e h k =
    let more = fetched_more c rows place low e in omega (arith, h, k, more)

pub steps_within : (c : Catalog) (rows : List (List (List Value))) (place start old new : ℕ)
    → place < length c.tables → length rows ≡ length c.tables
    → old ≤ start + fetches_before c rows place → new ≤ old + fetches_at c rows place
    → new ≤ start + index_fetches c rows
steps_within c rows place start old new low e h k =
    let more = steps_more c rows place start old new low e h k in
    let all = fetched_within c rows (place + 1) in
    omega (arith, more, all)
