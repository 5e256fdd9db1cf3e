-- The ends of the intervals of conditions are numbers of bounds.
use Rattle.std.proofs.Common.{◌≡◌, ◌==◌, ℕ, zero, suc, ◌-◌, ◌≤◌, Bool, true, false, cond}
use Rattle.std.proofs.Common.{List, [], ◌∷◌, ◌++◌, Some, None, length, map, take, min, refl, subst}
use Rattle.std.proofs.Common.{arith, sym}
use Rattle.std.proofs.lemmas.Bool.{or_right}
use Rattle.std.proofs.lemmas.Bool.Decides.{nat_tests}
use Rattle.std.proofs.lemmas.List.Elements.{All-from_recursion, recursion_from_All}
use Rattle.std.specs.List.{AllByRecursion, best_of, flat_map, prefix_len, take_while}
use Rattle.std.specs.Ordering.{is_gt, is_lt}
use Rattle.std.specs.Prelude.{IsTrue, Option, nat_le}
use Rattle.std.specs.declared.cmp.Ordering.{Ordering}
use Rattle.mc_charset.specs.Chars.{IsWellFormed, chars}
use Rattle.mc_key.specs.Keys.{AreBoundNumbers, is_bound_number, top}
use Rattle.mc_like.specs.Items.{items_of, literal_front}
use Rattle.mc_order.specs.Consequences.{CharsAreCut, FlatListsAreBounded, TailsAreWeights}
use Rattle.mc_order.specs.Consequences.{TextsAreChars}
use Rattle.mc_order.specs.Laws.{IsLawful, IsWeight, greatest_weight}
use Rattle.mc_order.specs.Meaning.{AreCharsOf, Meaning, first_chars, flat_list, separator}
use Rattle.mc_order.specs.Order.{list_order}
use Rattle.mc_order.specs.declared.pad.Pad.{Pad}
use Rattle.mc_order.specs.declared.pad.Pad.TheVariants.{PadSpace, NoPad}
use Rattle.mc_range.specs.Bounds.{EndsAreBounds, HasBounds}
use Rattle.mc_range.specs.Candidates.{behind_high, behind_low, candidates, ends, extreme}
use Rattle.mc_range.specs.Candidates.{lower_end, may_pass, numbers_from, passing_ends}
use Rattle.mc_range.specs.Candidates.{upper_end, with_tails}
use Rattle.mc_range.specs.Condition.{IsCellOf, IsCondOf}
use Rattle.mc_range.specs.Intervals.{around, at_least, at_most, begins_with, between, equal_cell}
use Rattle.mc_range.specs.Intervals.{from_to, intervals_of, like_cell, passing}
use Rattle.mc_range.specs.Safe.{is_safe, literal_list}
use Rattle.mc_range.specs.declared.condition.Cell.{Cell}
use Rattle.mc_range.specs.declared.condition.Cell.TheVariants as cell
use Rattle.mc_range.specs.declared.condition.Cond.{Cond}
use Rattle.mc_range.specs.declared.condition.Cond.TheVariants as cond
use Rattle.mc_range.specs.declared.interval.Interval.{Interval}
use Rattle.mc_range.proofs.Finds.{some_is, within_is}
use Rattle.mc_range.proofs.Lifts.{weights_of}
use Rattle.mc_range.proofs.LikeFinds.{chars_kept, list_named}
use Rattle.mc_range.proofs.Literals.{literals_of_set}

-- Numbers of bounds

abbrev IsNumber : ℕ → Type 0
IsNumber n = IsTrue (is_bound_number n)

abbrev Are : List ℕ → Type 0
Are list = AllByRecursion IsNumber list

abbrev AreAll : List (List ℕ) → Type 0
AreAll lists = AllByRecursion Are lists

small : (n : ℕ) → n ≤ greatest_weight → IsNumber n
small n h = or_right (n == top) (nat_le n greatest_weight) (grind (arith, nat_tests, h))

joined : (xs ys : List ℕ) → Are xs → Are ys → Are (xs ++ ys)
joined [] ys a b = b
joined (x ∷ xs) ys a b = (a.0, joined xs ys a.1 b)

front : (n : ℕ) (xs : List ℕ) → Are xs → Are (take n xs)
front zero xs a = tt
front (suc n) [] a = tt
front (suc n) (x ∷ xs) a = (a.0, front n xs a.1)

all_joined : (xs ys : List (List ℕ)) → AreAll xs → AreAll ys → AreAll (xs ++ ys)
all_joined [] ys a b = b
all_joined (x ∷ xs) ys a b = (a.0, all_joined xs ys a.1 b)

all_behind : (more : List ℕ) (xs : List (List ℕ)) → Are more → AreAll xs
    → AreAll (map (λ list. list ++ more) xs)
all_behind more [] m a = tt
all_behind more (x ∷ xs) m a = (joined x more a.0 m, all_behind more xs m a.1)

all_after : (first : List ℕ) (tails : List (List ℕ)) → Are first → AreAll tails
    → AreAll (map (λ tail. first ++ tail) tails)
all_after first [] f a = tt
all_after first (x ∷ xs) f a = (joined first x f a.0, all_after first xs f a.1)

fronts : (tails : List (List ℕ)) (weights : List ℕ) (sizes : List ℕ) → AreAll tails → Are weights
    → AreAll (flat_map (λ size. with_tails tails (take size weights)) sizes)
fronts tails weights [] t w = tt
fronts tails weights (size ∷ sizes) t w =
    all_joined (with_tails tails (take size weights))
    (flat_map (λ n. with_tails tails (take n weights)) sizes)
    (front size weights w, all_after (take size weights) tails (front size weights w) t)
    (fronts tails weights sizes t w)

all_candidates : (floor : ℕ) (tails : List (List ℕ)) (weights : List ℕ) → AreAll tails
    → Are weights → AreAll (candidates floor tails weights)
unfolding candidates
all_candidates floor tails weights t w =
    let least = min floor (length weights) in
    fronts tails weights (numbers_from least (suc (length weights - least))) t w

best : (beats : List ℕ → List ℕ → Bool) (a : List ℕ) (xs : List (List ℕ)) → Are a → AreAll xs
    → Are (best_of beats a xs)
best beats a [] h all = h
best beats a (x ∷ xs) h all =
    best beats (cond (beats x a) x a) xs
    (elim (beats x a) as (λ b. Are (cond b x a)) [ true ↦ all.0 | false ↦ h ]) all.1

extreme_are : (wins : Ordering → Bool) (pad : Pad) (space : ℕ) (xs : List (List ℕ)) → AreAll xs
    → Are (extreme wins pad space xs)
extreme_are wins pad space [] all = tt
extreme_are wins pad space (x ∷ xs) all =
    best (λ one other. wins (list_order pad space one other)) x xs all.0 all.1

by_test : (b : Bool) (P : List ℕ → Type 0) (xs ys : List ℕ) → P xs → P ys → P (cond b xs ys)
by_test true P xs ys p q = p
by_test false P xs ys p q = q

-- Intervals

abbrev Have : List Interval → Type 0
Have intervals = AllByRecursion HasBounds intervals

bounded : (xs : List ℕ) → Are xs → AreBoundNumbers xs
bounded xs a = All-from_recursion IsNumber xs a

have_ends : (low high : List ℕ) → Are low → Are high → HasBounds (from_to low high)
have_ends low high a b = record { lo = bounded low a; hi = bounded high b }

have_joined : (xs ys : List Interval) → Have xs → Have ys → Have (xs ++ ys)
have_joined [] ys a b = b
have_joined (x ∷ xs) ys a b = (a.0, have_joined xs ys a.1 b)

module _ (m : Meaning) (lawful : IsLawful m) (flat : FlatListsAreBounded m)
    (tail_weights : TailsAreWeights m) (cut : CharsAreCut m.charset)
    (of_text : TextsAreChars m.charset) where
  flat_are : (codes : List ℕ) → AreCharsOf m.charset codes → Are (flat_list m codes)
  flat_are codes c = spread (flat_list m codes)
      (recursion_from_All (λ n. n ≤ greatest_weight) (flat_list m codes) (flat codes c))
    where
      spread : (xs : List ℕ) → AllByRecursion (λ n. n ≤ greatest_weight) xs → Are xs
      spread [] h = tt
      spread (x ∷ xs) h = (small x h.0, spread xs h.1)

  weights_are : (xs : List ℕ) → AllByRecursion (IsWeight m) xs → Are xs
  weights_are [] h = tt
  weights_are (x ∷ xs) h = (small x h.0.1, weights_are xs h.1)

  first_are : (codes : List ℕ) → AreCharsOf m.charset codes → Are (m.level_list 1 codes)
  first_are codes c = weights_are (m.level_list 1 codes)
      (recursion_from_All (IsWeight m) (m.level_list 1 codes) (weights_of m lawful codes c))

  tails_are : AreAll m.tails
  tails_are = spread m.tails (λ tail i. weights_are tail
      (recursion_from_All (IsWeight m) tail (tail_weights tail i).1))
    where
      spread : (xs : List (List ℕ))
          → ((tail : List ℕ) → Rattle.std.specs.List.Contains xs tail → Are tail) → AreAll xs
      spread [] h = tt
      spread (x ∷ xs) h = (
        h x (0, omega arith, refl),
        spread xs (λ tail c. h tail (suc c.0, omega (arith, c.1), c.2)),
      )

  low_behind : Are (behind_low m)
  low_behind = by_test (m.levels == 1) Are [] (separator ∷ []) tt (refl, tt)

  high_behind : Are (behind_high m)
  high_behind = by_test (m.levels == 1) Are [] (separator ∷ top ∷ []) tt (refl, (refl, tt))

  passing_are : (weights : List ℕ) → Are weights → AreAll (passing_ends m weights)
  passing_are weights w = elim (may_pass m) as (λ b.
      AreAll (cond b ((weights ++ separator ∷ []) ∷ (weights ++ top ∷ []) ∷ []) [])) [
        | true ↦ (
          joined weights (separator ∷ []) w (refl, tt),
          (joined weights (top ∷ []) w (refl, tt), tt),
        )
        | false ↦ tt
      ]

  ends_are : (k : ℕ) (weights behind : List ℕ) → Are weights → Are behind
      → AreAll (ends m k weights behind)
  ends_are k weights behind w b =
      all_joined (map (λ list. list ++ behind) (candidates (m.floor k) m.tails weights))
      (passing_ends m weights)
      (all_behind behind (candidates (m.floor k) m.tails weights) b
      (all_candidates (m.floor k) m.tails weights tails_are w)) (passing_are weights w)

  lower_are : (prefix : Option ℕ) (codes : List ℕ) → AreCharsOf m.charset codes
      → Are (lower_end m prefix codes)
  lower_are None codes c = flat_are codes c
  lower_are (Some k) codes c =
      extreme_are is_lt m.pad m.space (ends m k (m.level_list 1 codes) (behind_low m))
      (ends_are k (m.level_list 1 codes) (behind_low m) (first_are codes c) low_behind)

  upper_are : (prefix : Option ℕ) (codes : List ℕ) → AreCharsOf m.charset codes
      → Are (upper_end m prefix codes)
  upper_are None codes c = flat_are codes c
  upper_are (Some k) codes c =
      extreme_are is_gt m.pad m.space (ends m k (m.level_list 1 codes) (behind_high m))
      (ends_are k (m.level_list 1 codes) (behind_high m) (first_are codes c) high_behind)

  around_have : (lists : List (List ℕ)) → AreAll lists → Have (map (around m) lists)
  around_have [] a = tt
  around_have (x ∷ xs) a = (
    have_ends (x ++ behind_low m) (x ++ behind_high m) (joined x (behind_low m) a.0 low_behind)
        (joined x (behind_high m) a.0 high_behind),
    around_have xs a.1,
  )

  passing_have : (weights : List ℕ) → Are weights → Have (passing m weights)
  passing_have weights w = elim (may_pass m) as (λ b.
      Have (cond b (from_to (weights ++ separator ∷ []) (weights ++ top ∷ []) ∷ []) [])) [
        | true ↦ (
          have_ends (weights ++ separator ∷ []) (weights ++ top ∷ [])
              (joined weights (separator ∷ []) w (refl, tt))
              (joined weights (top ∷ []) w (refl, tt)),
          tt,
        )
        | false ↦ tt
      ]

  equal_have : (prefix : Option ℕ) (it : Cell) → IsCellOf m.charset it
      → Have (equal_cell m prefix it)
  equal_have prefix cell.Null k = tt
  equal_have None (cell.Str text) k =
      let w = flat_are (chars m.charset text) (of_text text k) in
      (have_ends (flat_list m (chars m.charset text)) (flat_list m (chars m.charset text)) w w, tt)
  equal_have (Some n) (cell.Str text) k =
      let weights = m.level_list 1 (chars m.charset text) in
      let w = first_are (chars m.charset text) (of_text text k) in
      have_joined (map (around m) (candidates (m.floor n) m.tails weights)) (passing m weights)
      (around_have (candidates (m.floor n) m.tails weights)
      (all_candidates (m.floor n) m.tails weights tails_are w)) (passing_have weights w)

  cells_have : (prefix : Option ℕ) (cells : List Cell) → AllByRecursion (IsCellOf m.charset) cells
      → Have (flat_map (equal_cell m prefix) cells)
  cells_have prefix [] k = tt
  cells_have prefix (it ∷ cells) k =
      have_joined (equal_cell m prefix it) (flat_map (equal_cell m prefix) cells)
      (equal_have prefix it k.0) (cells_have prefix cells k.1)

  at_most_have : (prefix : Option ℕ) (it : Cell) → IsCellOf m.charset it
      → Have (at_most m prefix it)
  at_most_have prefix cell.Null k = tt
  at_most_have prefix (cell.Str text) k = (
    record {
      lo = tt;
      hi = bounded (upper_end m prefix (chars m.charset text))
          (upper_are prefix (chars m.charset text) (of_text text k));
    },
    tt,
  )

  at_least_have : (prefix : Option ℕ) (it : Cell) → IsCellOf m.charset it
      → Have (at_least m prefix it)
  at_least_have prefix cell.Null k = tt
  at_least_have prefix (cell.Str text) k = (
    record {
      lo = bounded (lower_end m prefix (chars m.charset text))
          (lower_are prefix (chars m.charset text) (of_text text k));
      hi = tt;
    },
    tt,
  )

  between_have : (prefix : Option ℕ) (low high : Cell) → IsCellOf m.charset low
      → IsCellOf m.charset high → Have (between m prefix low high)
  between_have prefix cell.Null high k l = tt
  between_have prefix (cell.Str low) cell.Null k l = tt
  between_have prefix (cell.Str low) (cell.Str high) k l = (
    have_ends (lower_end m prefix (chars m.charset low)) (upper_end m prefix (chars m.charset high))
        (lower_are prefix (chars m.charset low) (of_text low k))
        (upper_are prefix (chars m.charset high) (of_text high l)),
    tt,
  )

  literals_are : (prefix escape : Option ℕ) (text : List ℕ) → IsWellFormed m.charset text
      → Are (literal_list m prefix (items_of escape (chars m.charset text)))
  literals_are prefix escape text k =
      let codes = chars m.charset text in
      let literals = literal_front (items_of escape codes) in
      let kept = first_chars prefix literals in
      first_are (take_while (is_safe m) kept) (cut (prefix_len (is_safe m) kept) kept
      (chars_kept m.charset cut prefix literals
      (literals_of_set m.charset escape codes (of_text text k)))).0

  begins_have : (pad : Pad) (list : List ℕ) → Are list → HasBounds (begins_with pad list)
  begins_have NoPad list a =
      have_ends list (list ++ top ∷ []) a (joined list (top ∷ []) a (refl, tt))
  begins_have PadSpace list a = have_ends (list ++ separator ∷ []) (list ++ top ∷ [])
      (joined list (separator ∷ []) a (refl, tt)) (joined list (top ∷ []) a (refl, tt))

  like_have : (prefix escape : Option ℕ) (it : Cell) (intervals : List Interval)
      → IsCellOf m.charset it → like_cell m prefix it escape ≡ Some intervals → Have intervals
  like_have prefix escape cell.Null intervals k e = subst Have (some_is [] intervals e) tt
  like_have prefix escape (cell.Str text) intervals k e =
      let list = literal_list m prefix (items_of escape (chars m.charset text)) in
      subst Have (sym (list_named m.pad list intervals e))
      (begins_have m.pad list (literals_are prefix escape text k), tt)

  named : (prefix : Option ℕ) (it : Cond) (intervals : List Interval) → IsCondOf m.charset it
      → intervals_of m prefix it ≡ Some intervals → Have intervals
  named prefix (cond.Eq it) intervals k e =
      subst Have (within_is (equal_cell m prefix it) intervals e) (equal_have prefix it k)
  named prefix (cond.AtMost it) intervals k e =
      subst Have (some_is (at_most m prefix it) intervals e) (at_most_have prefix it k)
  named prefix (cond.AtLeast it) intervals k e =
      subst Have (some_is (at_least m prefix it) intervals e) (at_least_have prefix it k)
  named prefix (cond.Between low high) intervals k e =
      subst Have (some_is (between m prefix low high) intervals e)
      (between_have prefix low high k.0 k.1)
  named prefix (cond.In cells) intervals k e =
      subst Have (within_is (flat_map (equal_cell m prefix) cells) intervals e)
      (cells_have prefix cells (recursion_from_All (IsCellOf m.charset) cells k))
  named prefix (cond.Like it escape) intervals k e = like_have prefix escape it intervals k e

  pub ends_are_bounds : EndsAreBounds m
  ends_are_bounds prefix it intervals k e =
      All-from_recursion HasBounds intervals (named prefix it intervals k e)
