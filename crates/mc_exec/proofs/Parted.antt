-- Members of numbers, as they are met one by one.
use Rattle.std.proofs.Common.{◌≡◌, ℕ, zero, suc, ◌+◌, ◌<◌, ◌≤◌, Bool, true, false, List, [], ◌∷◌}
use Rattle.std.proofs.Common.{◌++◌, length, map, refl, sym, ap, ◌∙◌, arith, get_or, set}
use Rattle.std.proofs.Common.{take}
use Rattle.std.proofs.lemmas.Bool.Decides.{nat_tests}
use Rattle.std.proofs.lemmas.List.{get_or-map, length-map, length-take-le, map-append, map-set}
use Rattle.std.proofs.lemmas.List.{take_more}
use Rattle.std.specs.List.{range_with_len}
use Rattle.std.specs.Prelude.{nat_eq, if◌then◌else◌}
use Rattle.mc_exec.specs.Grouped.{numbered, parted}

differ : (m n : ℕ) → (n ≡ m → ⊥) → nat_eq m n ≡ false
differ m n h = grind (arith, nat_tests, h)

module _ {R : Type 0} where
  numbered_none : (n : ℕ) → numbered {R = R} n [] [] ≡ []
  unfolding numbered
  numbered_none n = refl

  inside : (r : R) (b : Bool) (l : List R) (row : R)
      → r ∷ (if b then l ++ row ∷ [] else l) ≡ (if b then (r ∷ l) ++ row ∷ [] else r ∷ l)
  inside r true l row = refl
  inside r false l row = refl

  numbered_push : (n : ℕ) (numbers : List ℕ) (rows : List R) (m : ℕ) (row : R)
      → length numbers ≡ length rows → numbered n (numbers ++ m ∷ []) (rows ++ row ∷ [])
      ≡ (if nat_eq m n then numbered n numbers rows ++ row ∷ [] else numbered n numbers rows)
  unfolding numbered
  numbered_push n [] [] m row e = refl
  numbered_push n [] (r ∷ rows) m row e = absurd (omega (arith, e))
  numbered_push n (k ∷ numbers) [] m row e = absurd (omega (arith, e))
  numbered_push n (k ∷ numbers) (r ∷ rows) m row e =
      let more = numbered_push n numbers rows m row (omega (arith, e)) in
      elim (nat_eq k n) as (λ b.
      (if b then r ∷ numbered n (numbers ++ m ∷ []) (rows ++ row ∷ [])
      else numbered n (numbers ++ m ∷ []) (rows ++ row ∷ []))
      ≡ (if nat_eq m n then (if b then r ∷ numbered n numbers rows else numbered n numbers rows)
      ++ row ∷ [] else (if b then r ∷ numbered n numbers rows else numbered n numbers rows))) [
        | true ↦ ap (λ l. r ∷ l) more ∙ inside r (nat_eq m n) (numbered n numbers rows) row
        | false ↦ more
      ]

  pushed : (n m : ℕ) (numbers : List ℕ) (rows : List R) (row : R) → length numbers ≡ length rows
      → n ≡ m → numbered n (numbers ++ m ∷ []) (rows ++ row ∷ [])
      ≡ numbered n numbers rows ++ row ∷ []
  pushed n m numbers rows row e h =
      let t : nat_eq m n ≡ true = grind (arith, nat_tests, h) in
      numbered_push n numbers rows m row e
      ∙ ap (λ b. if b then numbered n numbers rows ++ row ∷ [] else numbered n numbers rows) t

  passed : (n m : ℕ) (numbers : List ℕ) (rows : List R) (row : R) → length numbers ≡ length rows
      → (n ≡ m → ⊥) → numbered n (numbers ++ m ∷ []) (rows ++ row ∷ []) ≡ numbered n numbers rows
  passed n m numbers rows row e h =
      let t : nat_eq m n ≡ false = differ m n h in
      numbered_push n numbers rows m row e
      ∙ ap (λ b. if b then numbered n numbers rows ++ row ∷ [] else numbered n numbers rows) t

module _ {B : Type 0} (f h : ℕ → B) where
  same_from : (a n : ℕ) → ((k : ℕ) → a ≤ k → k < a + n → h k ≡ f k)
      → map h (range_with_len a n) ≡ map f (range_with_len a n)
  same_from a zero e = refl
  same_from a (suc n) e =
      ap (λ x. x ∷ map h (range_with_len (a + 1) n)) (e a (omega arith) (omega arith))
      ∙ ap (λ l. f a ∷ l) (same_from (a + 1) n (λ k l m. e k (omega (arith, l)) (omega (arith, m))))

  one_from : (a n d : ℕ) (y : B) → h (a + d) ≡ y → ((k : ℕ) → (k ≡ a + d → ⊥) → h k ≡ f k) → d < n
      → map h (range_with_len a n) ≡ set (map f (range_with_len a n)) d y
  one_from a zero d y e other l = absurd (omega arith)
  one_from a (suc n) zero y e other l =
      ap (λ x. x ∷ map h (range_with_len (a + 1) n)) (ap h (omega arith) ∙ e)
      ∙ ap (λ l. y ∷ l) (same_from (a + 1) n (λ k p q. other k (λ s. absurd (omega (arith, p, s)))))
  one_from a (suc n) (suc d) y e other l =
      ap (λ x. x ∷ map h (range_with_len (a + 1) n)) (other a (λ s. absurd (omega (arith, s))))
      ∙ ap (λ l. f a ∷ l) (one_from (a + 1) n d y (ap h (omega arith) ∙ e)
      (λ k p. other k (λ s. p (s ∙ omega arith))) (omega arith))

  got_from : (a n d : ℕ) (x : B) → d < n → get_or (map f (range_with_len a n)) d x ≡ f (a + d)
  got_from a zero d x l = absurd (omega arith)
  got_from a (suc n) zero x l = ap f (omega arith)
  got_from a (suc n) (suc d) x l = got_from (a + 1) n d x (omega arith) ∙ ap f (omega arith)

range_length : (a n : ℕ) → length (range_with_len a n) ≡ n
range_length a zero = refl
range_length a (suc n) = ap suc (range_length (a + 1) n)

module _ {R : Type 0} (count : ℕ) (numbers : List ℕ) (rows : List R) where
  pub parted_count : length (parted count numbers rows) ≡ count
  parted_count = length-map (range_with_len 0 count) (λ n. numbered n numbers rows)
      ∙ range_length 0 count

  pub parted_in : (m : ℕ) (row : R) → length numbers ≡ length rows → m < count
      → parted count (numbers ++ m ∷ []) (rows ++ row ∷ []) ≡ set (parted count numbers rows) m
      (get_or (parted count numbers rows) m [] ++ row ∷ [])
  parted_in m row e l =
      let f : ℕ → List R = λ n. numbered n numbers rows in
      let h : ℕ → List R = λ n. numbered n (numbers ++ m ∷ []) (rows ++ row ∷ []) in
      let at = got_from f h 0 count m [] l in
      one_from f h 0 count m (get_or (parted count numbers rows) m [] ++ row ∷ [])
      (pushed (0 + m) m numbers rows row e (omega arith) ∙ ap (λ x. x ++ row ∷ []) (sym at))
      (λ k p. passed k m numbers rows row e (λ s. p (s ∙ omega arith))) l

  pub parted_out : (m : ℕ) (row : R) → length numbers ≡ length rows → count ≤ m
      → parted count (numbers ++ m ∷ []) (rows ++ row ∷ []) ≡ parted count numbers rows
  parted_out m row e l =
      let f : ℕ → List R = λ n. numbered n numbers rows in
      let h : ℕ → List R = λ n. numbered n (numbers ++ m ∷ []) (rows ++ row ∷ []) in
      same_from f h 0 count (λ k p q. passed k m numbers rows row e (λ s. absurd (omega
      (arith, q, s, l))))

range_push : (a n : ℕ) → range_with_len a (suc n) ≡ range_with_len a n ++ (a + n) ∷ []
range_push a zero = ap (λ k. k ∷ []) (omega arith)
range_push a (suc n) = ap (λ l. a ∷ l) (range_push (a + 1) n
    ∙ ap (λ k. range_with_len (a + 1) n ++ k ∷ []) (omega arith))

module _ {R : Type 0} where
  -- One more group without members.
  pub open_more : (n m : ℕ) → m ≡ suc n → parted {R = R} m [] [] ≡ parted n [] [] ++ [] ∷ []
  unfolding numbered
  open_more n m e = ap (λ k. parted k [] []) e
      ∙ (ap (map (λ k. numbered {R = R} k [] [])) (range_push 0 n)
      ∙ map-append (λ k. numbered {R = R} k [] []) (range_with_len 0 n) ((0 + n) ∷ []))

  -- A member that is put into its group.
  pub put_in : {B : Type 0} (seen : B → R) (items : List (List B)) (place : ℕ) (old new : List B)
      (it : B) → place < length items → old ≡ get_or items place old → new ≡ old ++ it ∷ []
      → map (map seen) (set items place new) ≡ set (map (map seen) items) place
      (get_or (map (map seen) items) place [] ++ seen it ∷ [])
  put_in seen items place old new it h e n =
      map-set (map seen) items place new
      ∙ ap (set (map (map seen) items) place)
      (ap (map seen) n ∙ (map-append seen old (it ∷ [])
      ∙ ap (λ l. l ++ seen it ∷ [])
      (ap (map seen) e ∙ sym (get_or-map (map seen) items place old [] h))))

module _ {A R : Type 0} (seen : A → R) (count : ℕ) (ns : List ℕ) (xs : List A) where
  abbrev so_far : ℕ → List (List R)
  so_far i = parted count (take i ns) (map seen (take i xs))

  more_ns : (i : ℕ) → i < length ns → take (i + 1) ns ≡ take i ns ++ get_or ns i 0 ∷ []
  more_ns i h = take_more ns i 0 h

  more_xs : (i : ℕ) (x : A) → i < length xs → x ≡ get_or xs i x
      → map seen (take (i + 1) xs) ≡ map seen (take i xs) ++ seen x ∷ []
  more_xs i x h e = ap (map seen) (take_more xs i x h ∙ ap (λ y. take i xs ++ y ∷ []) (sym e))
      ∙ map-append seen (take i xs) (x ∷ [])

  as_long : (i : ℕ) → i < length ns → i < length xs
      → length (take i ns) ≡ length (map seen (take i xs))
  as_long i h k = length-take-le i ns (omega arith)
      ∙ sym (length-map (take i xs) seen ∙ length-take-le i xs (omega arith))

  stepped : (i : ℕ) (x : A) → i < length ns → i < length xs → x ≡ get_or xs i x
      → so_far (i + 1)
      ≡ parted count (take i ns ++ get_or ns i 0 ∷ []) (map seen (take i xs) ++ seen x ∷ [])
  stepped i x h k e = ap (λ l. parted count l (map seen (take (i + 1) xs))) (more_ns i h)
      ∙ ap (parted count (take i ns ++ get_or ns i 0 ∷ [])) (more_xs i x k e)

  -- So far the members in front of a place are in their groups.
  pub number_more : (i : ℕ) (x : A) (groups more : List (List R)) → i < length ns → i < length xs
      → x ≡ get_or xs i x → get_or ns i 0 < count → groups ≡ so_far i
      → more ≡ set groups (get_or ns i 0) (get_or groups (get_or ns i 0) [] ++ seen x ∷ [])
      → more ≡ so_far (i + 1)
  number_more i x groups more h k e l is m =
      m ∙ (ap (λ gs. set gs (get_or ns i 0) (get_or gs (get_or ns i 0) [] ++ seen x ∷ [])) is
      ∙ sym (stepped i x h k e ∙ parted_in count (take i ns) (map seen (take i xs)) (get_or ns i 0)
      (seen x) (as_long i h k) l))

  pub number_none : (i : ℕ) (x : A) (groups : List (List R)) → i < length ns → i < length xs
      → x ≡ get_or xs i x → count ≤ get_or ns i 0 → groups ≡ so_far i → groups ≡ so_far (i + 1)
  number_none i x groups h k e l is =
      is ∙ sym (stepped i x h k e ∙ parted_out count (take i ns) (map seen (take i xs))
      (get_or ns i 0) (seen x) (as_long i h k) l)
