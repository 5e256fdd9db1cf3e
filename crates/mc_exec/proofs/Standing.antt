-- What stands for groups, and whether all members can be evaluated.
use Rattle.std.proofs.Common.{◌≡◌, ℕ, ◌+◌, ◌<◌, ◌≤◌, Bool, true, false, IsTrue, List, [], ◌∷◌}
use Rattle.std.proofs.Common.{None, Some, map, refl, sym, ap, ◌∙◌, subst, drop, get_or, length}
use Rattle.std.proofs.Common.{◌++◌, take, arith, ◌||◌}
use Rattle.std.proofs.lemmas.Bool.{or_parts}
use Rattle.std.proofs.lemmas.List.{drop_all, length-take-le, take_more}
use Rattle.std.specs.List.{list_any, zip}
use Rattle.std.specs.Option.{is_some}
use Rattle.std.proofs.lemmas.Bool.Decides.{nat_tests}
use Rattle.std.specs.Prelude.{◌==◌, Option, Result, option_and_then, option_map}
use Rattle.mc_values.specs.declared.value.Value.{Value}
use Rattle.mc_exec.specs.Given.{Subject, all_of}
use Rattle.mc_exec.specs.Shown.{Line, or_one, standing}
use Rattle.mc_exec.specs.Steps.{GoesOn, with_all}
use Rattle.mc_exec.specs.Told.{Finds, TellsOf}
use Rattle.mc_exec.specs.declared.fault.ExecFault.{ExecFault}
use Rattle.mc_exec.proofs.Filled.{all_filled, next}
use Rattle.mc_exec.proofs.LineLists.{mapped_twice}
use Rattle.mc_exec.proofs.ShownRows.{all_of_map}

-- A row with these aggregates.
abbrev pub with_these : List Value → List Value → Subject
with_these aggregates row = record { row = row; aggregates = aggregates }

-- What comes of each member beside what is given of it.
pub all_zipped : {A B C : Type 0} (h : A → B → C) (given : A → Option B) (xs : List A)
    → all_of (λ x. option_map (h x) (given x)) xs
    ≡ option_map (λ ys. map (λ p. h p.0 p.1) (zip xs ys)) (all_of given xs)
unfolding all_of
all_zipped h given [] = refl
all_zipped h given (x ∷ xs) = elim (given x) as (λ o. option_and_then
    (λ first. option_map (λ others. first ∷ others)
    (all_of (λ x. option_map (h x) (given x)) xs)) (option_map (h x) o)
    ≡ option_map (λ ys. map (λ p. h p.0 p.1) (zip (x ∷ xs) ys))
    (option_and_then (λ first. option_map (λ others. first ∷ others) (all_of given xs)) o)) [
      | None ↦ refl
      | Some y ↦ ap (option_map (λ others. h x y ∷ others)) (all_zipped h given xs)
          ∙ (mapped_twice (λ ys. map (λ p. h p.0 p.1) (zip xs ys)) (λ others. h x y ∷ others)
          (all_of given xs)
          ∙ sym (mapped_twice (λ others. y ∷ others)
          (λ ys. map (λ p. h p.0 p.1) (zip (x ∷ xs) ys)) (all_of given xs)))
    ]

module _ {A B : Type 0} (given : A → Option B) where
  -- Whether the members can be evaluated is told by those that are left.
  abbrev pub IsChecked : List A → ℕ → Type 0
  IsChecked xs i = is_some (all_of given (drop i xs)) ≡ is_some (all_of given xs)

  some_first : (o : Option B) (p : Option (List B)) → IsTrue (is_some o)
      → is_some (option_and_then (λ first. option_map (λ others. first ∷ others) p) o) ≡ is_some p
  some_first None p h = absurd (cc)
  some_first (Some x) None h = refl
  some_first (Some x) (Some l) h = refl

  opened : (x : A) (xs : List A) → IsTrue (is_some (given x))
      → is_some (all_of given (x ∷ xs)) ≡ is_some (all_of given xs)
  unfolding all_of
  opened x xs h = some_first (given x) (all_of given xs) h

  pub check_more : (xs : List A) (i : ℕ) (x : A) → i < length xs → x ≡ get_or xs i x
      → IsChecked xs i → IsTrue (is_some (given x)) → IsChecked xs (i + 1)
  check_more xs i x l e s h =
      sym (opened x (drop (i + 1) xs) h)
      ∙ (sym (ap (λ l. is_some (all_of given l)) (next xs i x l e)) ∙ s)

  closed : (x : A) (xs : List A) → given x ≡ None → all_of given (x ∷ xs) ≡ None
  unfolding all_of
  closed x xs h =
      ap (option_and_then (λ first. option_map (λ others. first ∷ others) (all_of given xs))) h

  none_of : (o : Option (List B)) → is_some o ≡ false → o ≡ None
  none_of None h = refl
  none_of (Some l) h = absurd (cc)

  pub check_none : (xs : List A) (i : ℕ) (x : A) → i < length xs → x ≡ get_or xs i x
      → IsChecked xs i → given x ≡ None → all_of given xs ≡ None
  check_none xs i x l e s h = none_of (all_of given xs)
      (sym s ∙ ap is_some (ap (all_of given) (next xs i x l e) ∙ closed x (drop (i + 1) xs) h))

  pub check_end : (xs : List A) (i : ℕ) → length xs ≤ i → IsChecked xs i
      → IsTrue (is_some (all_of given xs))
  unfolding all_of
  check_end xs i h s = sym s ∙ ap (λ l. is_some (all_of given l)) (drop_all i xs h)

-- What holds of an answer about members that are lent.
pub finds_lent : {A B C U : Type 0} (seen : A → B) (given : B → Option C) (xs : List A)
    (ys : List B)
    → map seen xs ≡ ys → (result : Result U ExecFault)
    → Finds (all_of (λ x. given (seen x)) xs) result → Finds (all_of given ys) result
finds_lent {C = C} seen given xs ys e result h = subst (λ (o : Option (List C)). Finds o result)
    (all_of_map seen given xs ∙ ap (all_of given) e) h

pub or_some : {A : Type 0} (seen : A → List Value) (nulls : List Value) (xs : List A)
    → (length xs ≡ 0 → ⊥) → map seen xs ≡ or_one nulls (map seen xs)
or_some seen nulls [] h = absurd (h refl)
or_some seen nulls (x ∷ xs) h = refl

pub or_none : {A : Type 0} (seen : A → List Value) (nulls : List Value) (xs : List A)
    → length xs ≡ 0 → nulls ∷ [] ≡ or_one nulls (map seen xs)
or_none seen nulls [] h = refl
or_none seen nulls (x ∷ xs) h = absurd (omega (arith, h))

-- The aggregates over a group, where its rows can be evaluated with them, and where not.
module _ (lines : List Value → Option (List Line)) where
  abbrev checked : List Value → Option (List Value)
  checked values = option_map (λ ls. values) (lines values)

  is_checked : (o : Option (List Line)) (values : List Value) → IsTrue (is_some o)
      → option_map (λ ls. values) o ≡ Some values
  is_checked None values h = absurd (cc)
  is_checked (Some ls) values h = refl

  pub group_told : (o : Option (List Value)) (values : List Value) → o ≡ Some values
      → IsTrue (is_some (lines values)) → option_and_then checked o ≡ Some values
  group_told o values e h = ap (option_and_then checked) e ∙ is_checked (lines values) values h

  pub group_unchecked : (o : Option (List Value)) (values : List Value) → o ≡ Some values
      → lines values ≡ None → option_and_then checked o ≡ None
  group_unchecked o values e h =
      ap (option_and_then checked) e ∙ ap (option_map (λ ls. values)) h

  pub group_missing : (o : Option (List Value)) → o ≡ None → option_and_then checked o ≡ None
  group_missing o e = ap (option_and_then checked) e

pub any_seen : {A B : Type 0} (p : B → Bool) (seen : A → B) (xs : List A)
    → list_any (λ x. p (seen x)) xs ≡ list_any p (map seen xs)
any_seen p seen [] = refl
any_seen p seen (x ∷ xs) = ap (λ b. p (seen x) || b) (any_seen p seen xs)

-- Counters that go on one after the other.
pub goes_both : (a b both : Bool) (first old new : ℕ) → both ≡ (a || b) → GoesOn a first old
    → GoesOn b old new → GoesOn both first new
goes_both a b both first old new e h k = record {
  still = λ none. let parts = or_parts a b (sym e ∙ none) in k.still parts.1 ∙ h.still parts.0;
  later = omega (arith, h.later, k.later);
}

pub goes_first : (a b both : Bool) (first old : ℕ) → both ≡ (a || b) → GoesOn a first old
    → GoesOn both first old
goes_first a b both first old e h = record {
  still = λ none. h.still (or_parts a b (sym e ∙ none)).0;
  later = h.later;
}

pub goes_within : (a both : Bool) (first old : ℕ) → (both ≡ false → a ≡ false)
    → GoesOn a first old → GoesOn both first old
goes_within a both first old e h = record {
  still = λ none. h.still (e none);
  later = h.later;
}

-- What is told of a list that is filled from nothing.
pub filled_told : {A B U : Type 0} (given : A → Option B) (xs : List A) (start new : List B)
    (result : Result U ExecFault) → start ≡ [] → TellsOf (with_all given start xs) new result
    → TellsOf (all_of given xs) new result
filled_told {B = B} given xs start new result e h = subst (λ (o : Option
    (List B)). TellsOf o new result)
    (ap (λ l. with_all given l xs) e ∙ all_filled given xs) h

-- The members of two lists beside each other.
pub zip_push : {A B C : Type 0} (h : A → B → C) (xs : List A) (ys : List B) (x : A) (y : B)
    → length ys ≡ length xs → map (λ p. h p.0 p.1) (zip (xs ++ x ∷ []) (ys ++ y ∷ []))
    ≡ map (λ p. h p.0 p.1) (zip xs ys) ++ h x y ∷ []
zip_push h [] [] x y e = refl
zip_push h [] (z ∷ ys) x y e = absurd (omega (arith, e))
zip_push h (z ∷ xs) [] x y e = absurd (omega (arith, e))
zip_push h (v ∷ xs) (w ∷ ys) x y e = ap (λ l. h v w ∷ l) (zip_push h xs ys x y (omega (arith, e)))

-- One more of them stands.
pub stand_more : {A B C : Type 0} (h : A → B → C) (xs : List A) (ys : List B) (i : ℕ) (x : A)
    (y : B)
    (found more : List C) → length ys ≡ length xs → i < length ys → get_or xs i x ≡ x
    → get_or ys i y ≡ y → more ≡ found ++ h x y ∷ []
    → found ≡ map (λ p. h p.0 p.1) (zip (take i xs) (take i ys))
    → more ≡ map (λ p. h p.0 p.1) (zip (take (i + 1) xs) (take (i + 1) ys))
stand_more {A = A} {B = B} h xs ys i x y found more len l ex ey is so_far =
    let k : i < length xs = omega (arith, l, len) in
    let lx : length (take i xs) ≡ i = length-take-le i xs (omega arith) in
    let ly : length (take i ys) ≡ i = length-take-le i ys (omega arith) in
    is ∙ (ap (λ l. l ++ h x y ∷ []) so_far
    ∙ (sym (zip_push h (take i xs) (take i ys) x y (ly ∙ sym lx))
    ∙ sym (ap (λ (k : List A). map (λ p. h p.0 p.1) (zip k (take (i + 1) ys)))
    (take_more xs i x k ∙ ap (λ z. take i xs ++ z ∷ []) ex)
    ∙ ap (λ (k : List B). map (λ p. h p.0 p.1) (zip (take i xs ++ x ∷ []) k))
    (take_more ys i y l ∙ ap (λ z. take i ys ++ z ∷ []) ey))))

pub goes_twice : (like : Bool) (first old new : ℕ) → GoesOn like first old → GoesOn like old new
    → GoesOn like first new
goes_twice like first old new a b = record {
  still = λ none. b.still none ∙ a.still none;
  later = omega (arith, a.later, b.later);
}

unmapped : {A B : Type 0} (f : A → B) (o : Option A) → o ≡ None → option_map f o ≡ None
unmapped f o e = ap (option_map f) e

-- Where the aggregates of groups can't be had, nothing stands for them.
pub stand_none : (nulls : List Value) (given : List (List Value) → Option (List Value))
    (o : Option (List (List (List Value)))) → option_and_then (all_of given) o ≡ None
    → option_and_then (all_of (λ rows. option_map (standing nulls rows) (given rows))) o ≡ None
stand_none nulls given None e = refl
stand_none nulls given (Some groups) e =
    all_zipped (standing nulls) given groups
    ∙ ap (option_map (λ (ys : List (List Value)). map (λ p. standing nulls p.0 p.1)
    (zip groups ys))) e

pub is_zero : (n : ℕ) (b : Bool) → b ≡ (n == 0) → b ≡ true → n ≡ 0
is_zero n b e h = let f : (n == 0) ≡ true = sym e ∙ h in grind (arith, nat_tests, f)

pub not_zero : (n : ℕ) (b : Bool) → b ≡ (n == 0) → b ≡ false → n ≡ 0 → ⊥
not_zero n b e h k = let f : (n == 0) ≡ false = sym e ∙ h in grind (arith, nat_tests, f, k)
