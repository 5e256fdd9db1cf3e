-- The numbers of groups, as the keys are met one by one.
use Rattle.std.proofs.Common.{◌≡◌, ℕ, zero, suc, ◌<◌, ◌≤◌, get_or, drop, Bool, true, false, not}
use Rattle.std.proofs.Common.{◌&&◌, ◌||◌}
use Rattle.std.proofs.Common.{List, [], ◌∷◌, ◌++◌, ◌+◌, length, map, refl, sym, ap, ◌∙◌}
use Rattle.std.proofs.Common.{append_assoc, append-nil, arith}
use Rattle.std.specs.Cmp.{IsEquivalence}
use Rattle.std.specs.List.{filter, list_any, position_or_len}
use Rattle.indexmap.specs.IndexSet.{insert_key, insert_all}
use Rattle.std.proofs.lemmas.Bool.Decides.{nat_tests}
use Rattle.std.proofs.lemmas.List.{at_drop_more, at_drop_all}
use Rattle.mc_group.specs.Groups.{firsts, group_numbers}

-- One filter behind another passes what both do.
filter_both : {A : Type 0} (p q r : A → Bool) → ((y : A) → r y ≡ (q y && p y)) → (xs : List A) →
    filter p (filter q xs) ≡ filter r xs
filter_both p q r h [] = refl
filter_both p q r h (x ∷ xs) =
    let more = filter_both p q r h xs in let e = h x in grind (arith, nat_tests, more, e)

filter_all : {A : Type 0} (xs : List A) → filter (λ y. true) xs ≡ xs
filter_all [] = refl
filter_all (x ∷ xs) = ap (λ t. x ∷ t) (filter_all xs)

by_test : {P : Type 0} (b : Bool) → (b ≡ true → P) → (b ≡ false → P) → P
by_test true holds fails = holds refl
by_test false holds fails = fails refl

list_any-push : {A : Type 0} (test : A → Bool) (xs : List A) (x : A) →
    list_any test (xs ++ x ∷ []) ≡ (test x || list_any test xs)
list_any-push test [] x = refl
list_any-push test (y ∷ xs) x =
    let more = list_any-push test xs x in grind (arith, nat_tests, more)

position-found : {A : Type 0} (test : A → Bool) (xs more : List A) → list_any test xs ≡ true →
    position_or_len test (xs ++ more) ≡ position_or_len test xs
position-found test [] more found = absurd cc
position-found test (x ∷ xs) more found =
    by_test (test x) (λ is. rw is refl)
    (λ other. let rest = position-found test xs more (rw other at found) in
    rw other (ap (λ n. 1 + n) rest))

position-none : {A : Type 0} (test : A → Bool) (xs : List A) (x : A) → list_any test xs ≡ false →
    test x ≡ true → position_or_len test (xs ++ x ∷ []) ≡ position_or_len test xs
position-none test [] x none is = rw is refl
position-none test (y ∷ xs) x none is =
    by_test (test y) (λ y_is. absurd (grind (arith, nat_tests)))
    (λ other. let rest = position-none test xs x (rw other at none) is in
    rw other (ap (λ n. 1 + n) rest))

-- The numbers of keys behind others: each by the keys before it.
unfoldable pub numbers_behind : {A : Type 0} → (A → A → Bool) → List A → List A → List ℕ
numbers_behind same seen [] = []
numbers_behind same seen (k ∷ ks) =
    position_or_len (same k) seen ∷ numbers_behind same (insert_key same seen k) ks

module _ {A : Type 0} (same : A → A → Bool) (o : IsEquivalence same) where
  inserted : (seen : List A) (k : A) → list_any (same k) (insert_key same seen k) ≡ true
  inserted seen k =
      by_test (list_any (same k) seen) (λ is. rw is is)
      (λ none. rw none (list_any-push (same k) seen k ∙ rw o.refl refl))

  kept_number : (seen : List A) (k : A) →
      position_or_len (same k) (insert_key same seen k) ≡ position_or_len (same k) seen
  kept_number seen k =
      by_test (list_any (same k) seen) (λ is. rw is refl)
      (λ none. rw none (position-none (same k) seen k none (o.refl k)))

  insert_old : (seen : List A) (k : A) → list_any (same k) seen ≡ true →
      insert_key same seen k ≡ seen
  insert_old seen k is = rw is refl

  insert_new : (seen : List A) (k : A) → list_any (same k) seen ≡ false →
      insert_key same seen k ≡ seen ++ k ∷ []
  insert_new seen k none = rw none refl

  insert_all-behind : (seen ks : List A) →
      (more : List A) × (insert_all same seen ks ≡ seen ++ more)
  insert_all-behind seen [] = ([], sym (append-nil seen))
  insert_all-behind seen (k ∷ ks) =
      let rest = insert_all-behind (insert_key same seen k) ks in
      by_test (list_any (same k) seen)
      (λ is. (rest.0, rest.1 ∙ ap (λ s. s ++ rest.0) (insert_old seen k is)))
      (λ none. (
        k ∷ rest.0,
        rest.1 ∙ ap (λ s. s ++ rest.0) (insert_new seen k none)
            ∙ append_assoc seen (k ∷ []) rest.0,
      ))

  last_number : (seen ks : List A) (k : A) →
      position_or_len (same k) (insert_all same (insert_key same seen k) ks)
      ≡ position_or_len (same k) seen
  last_number seen ks k =
      let rest = insert_all-behind (insert_key same seen k) ks in
      ap (position_or_len (same k)) rest.1
      ∙ position-found (same k) (insert_key same seen k) rest.0 (inserted seen k)
      ∙ kept_number seen k

  behind_numbers : (seen ks : List A) →
      numbers_behind same seen ks
      ≡ map (λ k. position_or_len (same k) (insert_all same seen ks)) ks
  unfolding numbers_behind
  behind_numbers seen [] = refl
  behind_numbers seen (k ∷ ks) =
      ap (λ n. n ∷ numbers_behind same (insert_key same seen k) ks) (sym (last_number seen ks k))
      ∙ ap (λ ns. position_or_len (same k) (insert_all same (insert_key same seen k) ks) ∷ ns)
      (behind_numbers (insert_key same seen k) ks)

  -- A first member is the same as each member.
  list_any-kept : (p q : A → Bool) → ((z : A) → p z ≡ true → q z ≡ true) → (xs : List A) →
      list_any p xs ≡ true → list_any p (filter q xs) ≡ true
  list_any-kept p q h [] found = found
  list_any-kept p q h (x ∷ xs) found =
      by_test (p x)
      (λ is. let kept = h x is in rw (kept, is) refl)
      (λ other. let rest = list_any-kept p q h xs (rw other at found) in
      by_test (q x) (λ kept. rw (kept, other) rest) (λ gone. rw gone rest))

  pub has_first : (xs : List A) (i : ℕ) (d : A) → i < length xs →
      list_any (same (get_or xs i d)) (firsts same xs) ≡ true
  unfolding firsts
  has_first [] i d within = absurd (omega arith)
  has_first (x ∷ xs) zero d within = let e = o.refl x in rw e refl
  has_first (x ∷ xs) (suc i) d within =
      let y = get_or xs i d in
      let rest = has_first xs i d (omega arith) in
      by_test (same y x)
      (λ is. rw is refl)
      (λ other. rw other (list_any-kept (same y) (λ z. not (same x z))
      (λ z is. by_test (same x z)
      (λ yes. let e : same y x ≡ true = o.congr y z x is ∙ o.symm z x ∙ yes in
      absurd (let f = other in cc))
      (λ no. rw no refl)) (firsts same xs) rest))

  position_passes : (p : A → Bool) (xs : List A) (d : A) → list_any p xs ≡ true →
      p (get_or xs (position_or_len p xs) d) ≡ true
  position_passes p [] d found = absurd cc
  position_passes p (x ∷ xs) d found =
      by_test (p x) (λ is. rw is is)
      (λ other. let rest = position_passes p xs d (rw other at found) in
      let next : 1 + position_or_len p xs ≡ suc (position_or_len p xs) = omega arith in
      rw other (ap (λ (n : ℕ). p (get_or (x ∷ xs) n d)) next ∙ rest))

  -- Members have one number exactly where they are the same.
  pub one_number : (xs : List A) (i j : ℕ) (d : A) → i < length xs → j < length xs →
      position_or_len (same (get_or xs i d)) (firsts same xs)
      ≡ position_or_len (same (get_or xs j d)) (firsts same xs) →
      same (get_or xs i d) (get_or xs j d) ≡ true
  one_number xs i j d hi hj e =
      let x = get_or xs i d in
      let y = get_or xs j d in
      let fs = firsts same xs in
      let first = get_or fs (position_or_len (same x) fs) d in
      let a : same x first ≡ true = position_passes (same x) fs d (has_first xs i d hi) in
      let b : same y first ≡ true =
      ap (λ (n : ℕ). same y (get_or fs n d)) e
      ∙ position_passes (same y) fs d (has_first xs j d hj) in
      o.congr x first y a ∙ o.symm first y ∙ b

  pub same_number : (fs : List A) (x y : A) → same x y ≡ true →
      position_or_len (same x) fs ≡ position_or_len (same y) fs
  same_number fs x y e = λ i. position_or_len (λ z. o.congr x y z e i) fs

  is_new : List A → A → Bool
  is_new seen y = not (list_any (same y) seen)

  new_behind : (seen : List A) (k y : A) →
      not (list_any (same y) (seen ++ k ∷ [])) ≡ (not (same k y) && not (list_any (same y) seen))
  new_behind seen k y =
      let e = list_any-push (same y) seen k in let f = o.symm y k in grind (arith, nat_tests, e, f)

  old_behind : (seen : List A) (k y : A) → list_any (same k) seen ≡ true →
      not (list_any (same y) seen) ≡ (not (same k y) && not (list_any (same y) seen))
  old_behind seen k y found =
      by_test (same k y)
      (λ is. let e : list_any (same y) seen ≡ true =
      sym (ap (λ f. list_any f seen) (λ i z. o.congr k y z is i)) ∙ found in
      rw (is, e) refl)
      (λ other. rw other refl)

  all_inserted : (seen ks : List A) →
      insert_all same seen ks
      ≡ seen ++ filter (λ y. not (list_any (same y) seen)) (firsts same ks)
  unfolding firsts
  all_inserted seen [] = sym (append-nil seen)
  all_inserted seen (k ∷ ks) =
      by_test (list_any (same k) seen)
      (λ is. ap (λ s. insert_all same s ks) (insert_old seen k is)
      ∙ all_inserted seen ks
      ∙ rw is (ap (λ t. seen ++ t)
      (sym (filter_both (λ y. not (list_any (same y) seen)) (λ y. not (same k y))
      (λ y. not (list_any (same y) seen)) (λ y. old_behind seen k y is) (firsts same ks)))))
      (λ none. ap (λ s. insert_all same s ks) (insert_new seen k none)
      ∙ all_inserted (seen ++ k ∷ []) ks
      ∙ append_assoc seen (k ∷ []) _
      ∙ rw none (ap (λ t. seen ++ k ∷ t)
      (sym (filter_both (λ y. not (list_any (same y) seen)) (λ y. not (same k y))
      (λ y. not (list_any (same y) (seen ++ k ∷ []))) (λ y. new_behind seen k y)
      (firsts same ks)))))

  -- From no keys on, they are the groups' numbers.
  pub numbers_are : (ks : List A) → numbers_behind same [] ks ≡ group_numbers same ks
  numbers_are ks =
      behind_numbers [] ks
      ∙ ap (λ (fs : List A). map (λ k. position_or_len (same k) fs) ks)
      (all_inserted [] ks ∙ filter_all (firsts same ks))

-- Members are grouped by what they are compared by.
filter-map : {A B : Type 0} (f : A → B) (p : B → Bool) (xs : List A) →
    filter p (map f xs) ≡ map f (filter (λ x. p (f x)) xs)
filter-map f p [] = refl
filter-map f p (x ∷ xs) =
    by_test (p (f x)) (λ is. rw is (ap (λ t. f x ∷ t) (filter-map f p xs)))
    (λ other. rw other (filter-map f p xs))

position-map : {A B : Type 0} (f : A → B) (p : B → Bool) (xs : List A) →
    position_or_len p (map f xs) ≡ position_or_len (λ x. p (f x)) xs
position-map f p [] = refl
position-map f p (x ∷ xs) =
    by_test (p (f x)) (λ is. rw is refl)
    (λ other. rw other (ap (λ n. 1 + n) (position-map f p xs)))

firsts-map : {A B : Type 0} (f : A → B) (same : B → B → Bool) (xs : List A) →
    firsts same (map f xs) ≡ map f (firsts (λ x y. same (f x) (f y)) xs)
unfolding firsts
firsts-map f same [] = refl
firsts-map f same (x ∷ xs) =
    ap (λ t. f x ∷ t)
    (ap (filter (λ y. not (same (f x) y))) (firsts-map f same xs)
    ∙ filter-map f (λ y. not (same (f x) y)) (firsts (λ x y. same (f x) (f y)) xs))

map-alike : {A B : Type 0} (f g : A → B) → ((x : A) → f x ≡ g x) → (xs : List A) →
    map f xs ≡ map g xs
map-alike f g h [] = refl
map-alike f g h (x ∷ xs) = ap (λ y. y ∷ map f xs) (h x) ∙ ap (λ t. g x ∷ t) (map-alike f g h xs)

map-twice : {A B C : Type 0} (f : A → B) (g : B → C) (xs : List A) →
    map g (map f xs) ≡ map (λ x. g (f x)) xs
map-twice f g [] = refl
map-twice f g (x ∷ xs) = ap (λ t. g (f x) ∷ t) (map-twice f g xs)

pub group_numbers-map : {A B : Type 0} (f : A → B) (same : B → B → Bool) (xs : List A) →
    group_numbers same (map f xs) ≡ group_numbers (λ x y. same (f x) (f y)) xs
group_numbers-map f same xs =
    map-twice f (λ k. position_or_len (same k) (firsts same (map f xs))) xs
    ∙ map-alike (λ x. position_or_len (same (f x)) (firsts same (map f xs)))
    (λ x. position_or_len (λ y. same (f x) (f y)) (firsts (λ x y. same (f x) (f y)) xs))
    (λ x. ap (position_or_len (same (f x))) (firsts-map f same xs)
    ∙ position-map f (same (f x)) (firsts (λ x y. same (f x) (f y)) xs)) xs

list_any-map : {A B : Type 0} (f : A → B) (p : B → Bool) (xs : List A) →
    list_any p (map f xs) ≡ list_any (λ x. p (f x)) xs
list_any-map f p [] = refl
list_any-map f p (x ∷ xs) = ap (λ b. p (f x) || b) (list_any-map f p xs)

map-push : {A B : Type 0} (f : A → B) (xs : List A) (x : A) →
    map f (xs ++ x ∷ []) ≡ map f xs ++ f x ∷ []
map-push f [] x = refl
map-push f (y ∷ xs) x = ap (λ t. f y ∷ t) (map-push f xs x)

-- A key that is added, and its place, by what keys are compared by.
pub insert_key-map : {A B : Type 0} (f : A → B) (same : B → B → Bool) (ks : List A) (k : A) →
    map f (insert_key (λ x y. same (f x) (f y)) ks k) ≡ insert_key same (map f ks) (f k)
insert_key-map f same ks k =
    by_test (list_any (λ x. same (f k) (f x)) ks)
    (λ is. rw (is, list_any-map f (same (f k)) ks, is) refl)
    (λ none. rw (none, list_any-map f (same (f k)) ks, none) (map-push f ks k))

pub place-map : {A B : Type 0} (f : A → B) (same : B → B → Bool) (ks : List A) (k : A) →
    position_or_len (λ x. same (f k) (f x)) ks ≡ position_or_len (same (f k)) (map f ks)
place-map f same ks k = sym (position-map f (same (f k)) ks)

-- A key more is met.
pub numbers_more : {R K : Type 0} (f : R → K) (same : K → K → Bool) (rows : List R) (i : ℕ) (d : R)
    (seen more : List K) (done found all : List ℕ) (n : ℕ) → i < length rows →
    done ++ numbers_behind same seen (map f (drop i rows)) ≡ all →
    n ≡ position_or_len (same (f (get_or rows i d))) seen →
    more ≡ insert_key same seen (f (get_or rows i d)) → found ≡ done ++ n ∷ [] →
    found ++ numbers_behind same more (map f (drop (i + 1) rows)) ≡ all
unfolding numbers_behind
numbers_more f same rows i d seen more done found all n within before is added pushed =
    let k = f (get_or rows i d) in
    let ks = map f (drop (i + 1) rows) in
    ap (λ (l : List ℕ). l ++ numbers_behind same more ks) pushed
    ∙ append_assoc done (n ∷ []) (numbers_behind same more ks)
    ∙ ap (λ (m : ℕ). done ++ m ∷ numbers_behind same more ks) is
    ∙ ap (λ (s : List _). done ++ position_or_len (same k) seen ∷ numbers_behind same s ks) added
    ∙ sym (ap (λ ns. done ++ ns)
    (at_drop_more (λ l. numbers_behind same seen (map f l)) rows i d within))
    ∙ before

pub numbers_all : {R K : Type 0} (f : R → K) (same : K → K → Bool) (rows : List R)
    (i : ℕ) (seen : List K) (found all : List ℕ) → length rows ≤ i →
    found ++ numbers_behind same seen (map f (drop i rows)) ≡ all → found ≡ all
unfolding numbers_behind
numbers_all f same rows i seen found all past before =
    let none = at_drop_all (λ l. numbers_behind same seen (map f l)) rows i past in
    sym (append-nil found) ∙ sym (ap (λ ns. found ++ ns) none) ∙ before
