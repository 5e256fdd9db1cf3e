-- A text cut at a byte, and the parts between such bytes.
use Rattle.std.proofs.Common.{◌≡◌, ℕ, ◌+◌, ◌-◌, ◌<◌, ◌≤◌, Bool, true, false, cond, nat_lt, List, [], ◌∷◌, length, take, drop, take_all, length-drop, position, Some, None, refl, ap, ◌∙◌, arith}
use Rattle.std.specs.List.{slice_split, position_or_len}
use Rattle.std.proofs.lemmas.Bool.Decides.{nat_tests}
use Rattle.std.proofs.lemmas.List.Splits.{slice_split_first, slice_split_none}
use Rattle.std.proofs.lemmas.List.Sums.{fails_before_first}

some_place : (b : Bool) (n i : ℕ) → cond b (Some n) None ≡ Some i → (b ≡ true) × (n ≡ i)
some_place true n i e = (refl, cc)
some_place false n i e = absurd cc

none_place : (b : Bool) (n : ℕ) → cond b (Some n) None ≡ None → b ≡ false
none_place true n e = absurd cc
none_place false n e = refl

-- The parts of a text with such a byte.
pub parts_some : (p : ℕ → Bool) (xs : List ℕ) (i : ℕ) → position p xs ≡ Some i →
    slice_split p xs ≡ take i xs ∷ slice_split p (drop (i + 1) xs)
parts_some p xs i e =
    let place = some_place (nat_lt (position_or_len p xs) (length xs)) (position_or_len p xs) i e in
    let within : position_or_len p xs < length xs = grind (arith, nat_tests, place.0) in
    slice_split_first p xs 0 within
    ∙ ap (λ n. take n xs ∷ slice_split p (drop (n + 1) xs)) place.1

-- The one part of a text without one.
pub parts_none : (p : ℕ → Bool) (xs : List ℕ) → position p xs ≡ None → slice_split p xs ≡ xs ∷ []
parts_none p xs e =
    let no = none_place (nat_lt (position_or_len p xs) (length xs)) (position_or_len p xs) e in
    let out : length xs ≤ position_or_len p xs = grind (arith, nat_tests, no) in
    slice_split_none p xs (λ k d lt. fails_before_first p xs k d (omega arith))

-- All that stands behind a place.
pub take_rest : (xs : List ℕ) (n : ℕ) → take (length xs - n) (drop n xs) ≡ drop n xs
take_rest xs n = take_all (length xs - n) (drop n xs) (omega (arith, length-drop n xs))
