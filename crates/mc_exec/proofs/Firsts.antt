-- The firsts are the members whose number is the next one that is new.
use Rattle.std.proofs.Common.{◌≡◌, ℕ, ◌+◌, ◌<◌, ◌≤◌, Bool, true, false, not, ◌&&◌, ◌||◌}
use Rattle.std.proofs.Common.{suc, List, [], ◌∷◌, ◌++◌, length, map, refl, sym, ap, ◌∙◌, arith}
use Rattle.std.proofs.Common.{append_assoc, append-nil, drop, get_or, length-append}
use Rattle.std.specs.List.{AllByRecursion}
use Rattle.std.proofs.lemmas.List.{drop_all, drop_more, length-map}
use Rattle.std.specs.Cmp.{IsEquivalence}
use Rattle.std.specs.List.{filter, list_any, position_or_len}
use Rattle.std.specs.Prelude.{nat_eq, if◌then◌else◌}
use Rattle.std.proofs.lemmas.Bool.Decides.{nat_tests}
use Rattle.mc_group.specs.Groups.{firsts, group_numbers}
use Rattle.mc_exec.specs.Steps.{picked}

by_test : {P : Type 0} (b : Bool) → (b ≡ true → P) → (b ≡ false → P) → P
by_test true holds fails = holds refl
by_test false holds fails = fails refl

filter_both : {A : Type 0} (p q r : A → Bool) → ((y : A) → r y ≡ (q y && p y)) → (xs : List A) →
    filter p (filter q xs) ≡ filter r xs
filter_both p q r h [] = refl
filter_both p q r h (x ∷ xs) =
    let more = filter_both p q r h xs in let e = h x in grind (arith, nat_tests, more, e)

filter_all : {A : Type 0} (xs : List A) → filter (λ y. true) xs ≡ xs
filter_all [] = refl
filter_all (x ∷ xs) = ap (λ t. x ∷ t) (filter_all xs)

list_any-push : {A : Type 0} (test : A → Bool) (xs : List A) (x : A) →
    list_any test (xs ++ x ∷ []) ≡ (test x || list_any test xs)
list_any-push test [] x = refl
list_any-push test (y ∷ xs) x =
    let more = list_any-push test xs x in grind (arith, nat_tests, more)

-- The place of the first that passes, where one does, and where those in front don't.
position-found : {A : Type 0} (test : A → Bool) (xs more : List A) → list_any test xs ≡ true →
    position_or_len test (xs ++ more) < length xs
position-found test [] more found = absurd cc
position-found test (x ∷ xs) more found =
    by_test (test x) (λ is. rw is (omega arith))
    (λ other. let rest = position-found test xs more (rw other at found) in
    rw other (omega (arith, rest)))

position-next : {A : Type 0} (test : A → Bool) (xs : List A) (x : A) (more : List A) →
    list_any test xs ≡ false → test x ≡ true →
    position_or_len test (xs ++ x ∷ more) ≡ length xs
position-next test [] x more none is = rw is refl
position-next test (y ∷ xs) x more none is =
    by_test (test y) (λ y_is. absurd (grind (arith, nat_tests)))
    (λ other. let rest = position-next test xs x more (rw other at none) is in
    rw other (ap (λ n. 1 + n) rest ∙ omega arith))

not_equal : (n m : ℕ) → n < m → nat_eq n m ≡ false
not_equal n m h = grind (arith, nat_tests)

unequal : (n m : ℕ) → (n ≡ m → ⊥) → nat_eq n m ≡ false
unequal n m h = grind (arith, nat_tests, h)

equal : (n m : ℕ) → n ≡ m → nat_eq n m ≡ true
equal n m h = grind (arith, nat_tests)

skip : {A : Type 0} (count n : ℕ) (numbers : List ℕ) (x : A) (xs : List A) → nat_eq n count
    ≡ false →
    picked count (n ∷ numbers) (x ∷ xs) ≡ picked count numbers xs
unfolding picked
skip count n numbers x xs h = rw h refl

take_one : {A : Type 0} (count n : ℕ) (numbers : List ℕ) (x : A) (xs : List A) → nat_eq n count
    ≡ true →
    picked count (n ∷ numbers) (x ∷ xs) ≡ x ∷ picked (count + 1) numbers xs
unfolding picked
take_one count n numbers x xs h = rw h refl

no_more : {A : Type 0} (count : ℕ) → picked {A = A} count [] [] ≡ []
unfolding picked
no_more count = refl

longer : {A : Type 0} (seen : List A) (x : A) → length (seen ++ x ∷ []) ≡ length seen + 1
longer seen x = simp length-append (omega arith)

module _ {A : Type 0} (same : A → A → Bool) (o : IsEquivalence same) where
  is_new : List A → A → Bool
  is_new seen y = not (list_any (same y) seen)

  abbrev new_of : List A → List A → List A
  new_of seen xs = filter (λ y. not (list_any (same y) seen)) (firsts same xs)

  new_behind : (seen : List A) (k y : A) →
      not (list_any (same y) (seen ++ k ∷ [])) ≡ (not (same k y) && not (list_any (same y) seen))
  new_behind seen k y =
      let e = list_any-push (same y) seen k in let f = o.symm y k in grind (arith, nat_tests, e, f)

  old_behind : (seen : List A) (k y : A) → list_any (same k) seen ≡ true →
      not (list_any (same y) seen) ≡ (not (same k y) && not (list_any (same y) seen))
  old_behind seen k y found =
      by_test (same k y)
      (λ is. let e : list_any (same y) seen ≡ true =
      sym (ap (λ f. list_any f seen) (λ i z. o.congr k y z is i)) ∙ found in
      rw (is, e) refl)
      (λ other. rw other refl)

  old_of : (seen : List A) (x : A) (xs : List A) → list_any (same x) seen ≡ true →
      new_of seen (x ∷ xs) ≡ new_of seen xs
  unfolding firsts
  old_of seen x xs is = rw is (filter_both (λ y. not (list_any (same y) seen))
      (λ y. not (same x y)) (λ y. not (list_any (same y) seen))
      (λ y. old_behind seen x y is) (firsts same xs))

  next_of : (seen : List A) (x : A) (xs : List A) → list_any (same x) seen ≡ false →
      new_of seen (x ∷ xs) ≡ x ∷ new_of (seen ++ x ∷ []) xs
  unfolding firsts
  next_of seen x xs none = rw none (ap (λ t. x ∷ t)
      (filter_both (λ y. not (list_any (same y) seen)) (λ y. not (same x y))
      (λ y. not (list_any (same y) (seen ++ x ∷ []))) (λ y. new_behind seen x y)
      (firsts same xs)))

  abbrev numbers_in : List A → List A → List ℕ
  numbers_in all xs = map (λ x. position_or_len (same x) all) xs

  empty_new : (seen : List A) → new_of seen [] ≡ []
  unfolding firsts
  empty_new seen = refl

  picked_behind : (seen xs : List A) →
      picked (length seen) (numbers_in (seen ++ new_of seen xs) xs) xs ≡ new_of seen xs
  picked_behind seen [] = no_more (length seen) ∙ sym (empty_new seen)
  picked_behind seen (x ∷ xs) =
      by_test (list_any (same x) seen)
      (λ is. skip (length seen) _ _ x xs (not_equal _ _
      (position-found (same x) seen (new_of seen (x ∷ xs)) is))
      ∙ (ap (λ (l : List A). picked (length seen) (numbers_in (seen ++ l) xs) xs)
      (old_of seen x xs is)
      ∙ (picked_behind seen xs ∙ sym (old_of seen x xs is))))
      (λ none.
      let e = next_of seen x xs none in
      let more = new_of (seen ++ x ∷ []) xs in
      take_one (length seen) _ _ x xs (equal _ _
      (ap (λ (l : List A). position_or_len (same x) (seen ++ l)) e
      ∙ position-next (same x) seen x more none (o.refl x)))
      ∙ (ap (λ l. x ∷ l) (ap (λ (l : List A).
      picked (length seen + 1) (numbers_in l xs) xs)
      (ap (λ (l : List A). seen ++ l) e ∙ sym (append_assoc seen (x ∷ []) more))
      ∙ (ap (λ n. picked n (numbers_in ((seen ++ x ∷ []) ++ more) xs) xs) (sym (longer seen x))
      ∙ picked_behind (seen ++ x ∷ []) xs))
      ∙ sym e))

  pub picked_firsts : (xs : List A) → picked 0 (group_numbers same xs) xs ≡ firsts same xs
  picked_firsts xs =
      let all : new_of [] xs ≡ firsts same xs = filter_all (firsts same xs) in
      ap (λ (l : List A). picked 0 (numbers_in l xs) xs) (sym all)
      ∙ (picked_behind [] xs ∙ all)

-- How many there are so far, where the number at a place is the next new one, and where not.
pub counted_next : (ns : List ℕ) (i count total : ℕ) → i < length ns → get_or ns i 0 ≡ count →
    count + length (picked count (drop i ns) (drop i ns)) ≡ total →
    (count + 1) + length (picked (count + 1) (drop (i + 1) ns) (drop (i + 1) ns)) ≡ total
counted_next ns i count total h e so_far =
    let d = drop_more ns i 0 h in
    let one = take_one count (get_or ns i 0) (drop (i + 1) ns) (get_or ns i 0) (drop (i + 1) ns)
    (equal _ _ e) in
    let len = ap length (ap (λ (l : List ℕ). picked count l l) d ∙ one) in
    omega (arith, len, so_far)

pub counted_same : (ns : List ℕ) (i count total : ℕ) → i < length ns → (get_or ns i 0 ≡ count → ⊥) →
    count + length (picked count (drop i ns) (drop i ns)) ≡ total →
    count + length (picked count (drop (i + 1) ns) (drop (i + 1) ns)) ≡ total
counted_same ns i count total h e so_far =
    let d = drop_more ns i 0 h in
    let one = skip count (get_or ns i 0) (drop (i + 1) ns) (get_or ns i 0) (drop (i + 1) ns)
    (unequal _ _ e) in
    let len = ap length (ap (λ (l : List ℕ). picked count l l) d ∙ one) in
    omega (arith, len, so_far)

pub counted_end : (ns : List ℕ) (i count total : ℕ) → length ns ≤ i →
    count + length (picked count (drop i ns) (drop i ns)) ≡ total → count ≡ total
unfolding picked
counted_end ns i count total h so_far =
    let len : length (picked count (drop i ns) (drop i ns)) ≡ 0 =
    ap (λ (l : List ℕ). length (picked count l l)) (drop_all i ns h) in
    omega (arith, len, so_far)

same_length : {A B : Type 0} (count : ℕ) (ns : List ℕ) (xs : List A) (ys : List B)
    → length xs ≡ length ns → length ys ≡ length ns
    → length (picked count ns xs) ≡ length (picked count ns ys)
unfolding picked
same_length count [] xs ys e f = refl
same_length count (n ∷ ns) [] ys e f = absurd (omega (arith, e))
same_length count (n ∷ ns) (x ∷ xs) [] e f = absurd (omega (arith, f))
same_length count (n ∷ ns) (x ∷ xs) (y ∷ ys) e f = elim (nat_eq n count) as (λ b.
    length (if b then x ∷ picked (count + 1) ns xs else picked count ns xs)
    ≡ length (if b then y ∷ picked (count + 1) ns ys else picked count ns ys)) [
      | true ↦ ap suc (same_length (count + 1) ns xs ys (omega (arith, e)) (omega (arith, f)))
      | false ↦ same_length count ns xs ys (omega (arith, e)) (omega (arith, f))
    ]

-- There are as many new numbers as firsts.
pub picked_count : {A : Type 0} (same : A → A → Bool) → IsEquivalence same → (xs : List A)
    (numbers : List ℕ) → numbers ≡ group_numbers same xs
    → length (picked 0 numbers numbers) ≡ length (firsts same xs)
picked_count same o xs numbers e =
    let ns = group_numbers same xs in
    let len : length xs ≡ length ns = sym (length-map xs (λ x. position_or_len (same x)
    (firsts same xs))) in
    ap (λ (l : List ℕ). length (picked 0 l l)) e
    ∙ (same_length 0 ns ns xs refl len ∙ ap length (picked_firsts same o xs))

module _ {A : Type 0} (ns : List ℕ) (xs : List A) (total : List A) where
  at_next : (i count : ℕ) (x : A) → i < length ns → i < length xs → x ≡ get_or xs i x
      → get_or ns i 0 ≡ count → picked count (drop i ns) (drop i xs)
      ≡ x ∷ picked (count + 1) (drop (i + 1) ns) (drop (i + 1) xs)
  at_next i count x h k e n =
      ap (λ (l : List ℕ). picked count l (drop i xs)) (drop_more ns i 0 h)
      ∙ (ap (picked count (get_or ns i 0 ∷ drop (i + 1) ns)) (drop_more xs i x k)
      ∙ (take_one count (get_or ns i 0) (drop (i + 1) ns) (get_or xs i x) (drop (i + 1) xs)
      (equal _ _ n)
      ∙ ap (λ y. y ∷ picked (count + 1) (drop (i + 1) ns) (drop (i + 1) xs)) (sym e)))

  -- So far those that are picked in front of a place.
  pub picked_next : (i : ℕ) (x : A) (found more : List A) → i < length ns → i < length xs
      → x ≡ get_or xs i x → get_or ns i 0 ≡ length found → more ≡ found ++ x ∷ []
      → found ++ picked (length found) (drop i ns) (drop i xs) ≡ total
      → more ++ picked (length more) (drop (i + 1) ns) (drop (i + 1) xs) ≡ total
  picked_next i x found more h k e n is so_far =
      ap (λ (l : List A). l ++ picked (length l) (drop (i + 1) ns) (drop (i + 1) xs)) is
      ∙ (ap (λ n. (found ++ x ∷ []) ++ picked n (drop (i + 1) ns) (drop (i + 1) xs))
      (longer found x)
      ∙ (append_assoc found (x ∷ []) (picked (length found + 1) (drop (i + 1) ns) (drop (i + 1) xs))
      ∙ (ap (λ l. found ++ l) (sym (at_next i (length found) x h k e n)) ∙ so_far)))

  pub picked_same : (i : ℕ) (x : A) (found : List A) → i < length ns → i < length xs
      → (get_or ns i 0 ≡ length found → ⊥)
      → found ++ picked (length found) (drop i ns) (drop i xs) ≡ total
      → found ++ picked (length found) (drop (i + 1) ns) (drop (i + 1) xs) ≡ total
  picked_same i x found h k n so_far =
      ap (λ l. found ++ l) (sym (ap (λ (l : List ℕ). picked (length found) l (drop i xs))
      (drop_more ns i 0 h)
      ∙ (ap (picked (length found) (get_or ns i 0 ∷ drop (i + 1) ns)) (drop_more xs i x k)
      ∙ skip (length found) (get_or ns i 0) (drop (i + 1) ns) (get_or xs i x) (drop (i + 1) xs)
      (unequal _ _ n)))) ∙ so_far

  pub picked_end : (i : ℕ) (found : List A) → length ns ≤ i
      → found ++ picked (length found) (drop i ns) (drop i xs) ≡ total → found ≡ total
  unfolding picked
  picked_end i found h so_far =
      sym (append-nil found) ∙ (ap (λ l. found ++ l)
      (sym (ap (λ (l : List ℕ). picked (length found) l (drop i xs)) (drop_all i ns h))) ∙ so_far)

-- What holds of members, and comes of them, where some are picked.
pub picked_each : {A : Type 0} (P : A → Type 0) (count : ℕ) (ns : List ℕ) (xs : List A)
    → AllByRecursion P xs → AllByRecursion P (picked count ns xs)
unfolding picked
picked_each P count [] xs h = tt
picked_each P count (n ∷ ns) [] h = tt
picked_each P count (n ∷ ns) (x ∷ xs) h = elim (nat_eq n count) as (λ b. AllByRecursion P
    (if b then x ∷ picked (count + 1) ns xs else picked count ns xs)) [
      | true ↦ (h.0, picked_each P (count + 1) ns xs h.1)
      | false ↦ picked_each P count ns xs h.1
    ]
