-- How many members of a list pass a test that parts it by places.
use Rattle.std.proofs.Common.{◌≡◌, ℕ, zero, suc, ◌+◌, ◌-◌, ◌<◌, ◌≤◌, Bool, true, false, cond}
use Rattle.std.proofs.Common.{List, [], ◌∷◌, length, get_or, map, min, refl, sym, ap, ◌∙◌, arith}
use Rattle.std.specs.List.{AllWithin, count_by, prefix_len}
use Rattle.std.specs.List.Sorted.{IsPartitionedBy}
use Rattle.std.proofs.lemmas.List.Sums.{prefix_len-le-length, prefix_len_passes, prefix_len_stops}
use Rattle.std.proofs.lemmas.List.Sums.{sum_by-cons}

count_yes : {X : Type 0} (p : X → Bool) (x : X) (xs : List X) → p x ≡ true →
    count_by p (x ∷ xs) ≡ suc (count_by p xs)
count_yes p x xs e =
    sum_by-cons (λ y. cond (p y) 1 0) x xs ∙ ap (λ b. cond b 1 0 + count_by p xs) e ∙ omega arith

count_no : {X : Type 0} (p : X → Bool) (x : X) (xs : List X) → p x ≡ false →
    count_by p (x ∷ xs) ≡ count_by p xs
count_no p x xs e =
    sum_by-cons (λ y. cond (p y) 1 0) x xs ∙ ap (λ b. cond b 1 0 + count_by p xs) e ∙ omega arith

-- Members from place a on and before place b pass, and no others.
pub record PassFromTo {X : Type 0} (p : X → Bool) (xs : List X) (a b : ℕ) : Type 0 where
  pub below : (k : ℕ) (d : X) → k < length xs → k < a → p (get_or xs k d) ≡ false
  pub inside : (k : ℕ) (d : X) → k < length xs → a ≤ k → k < b → p (get_or xs k d) ≡ true
  pub above : (k : ℕ) (d : X) → k < length xs → b ≤ k → p (get_or xs k d) ≡ false

pub count_run : {X : Type 0} (p : X → Bool) (xs : List X) (a b : ℕ) → PassFromTo p xs a b →
    count_by p xs ≡ min b (length xs) - a
count_run p [] a b h = omega arith
count_run p (x ∷ xs) a zero h =
    count_no p x xs (h.above 0 x (omega arith) (omega arith))
    ∙ count_run p xs a zero (record {
      below = λ k d within less. h.above (suc k) d (omega arith) (omega arith);
      inside = λ k d within low high. absurd (omega arith);
      above = λ k d within more. h.above (suc k) d (omega arith) (omega arith);
    })
    ∙ omega arith
count_run p (x ∷ xs) zero (suc b) h =
    count_yes p x xs (h.inside 0 x (omega arith) (omega arith) (omega arith))
    ∙ ap suc (count_run p xs zero b (record {
      below = λ k d within less. absurd (omega arith);
      inside = λ k d within low high. h.inside (suc k) d (omega arith) (omega arith) (omega arith);
      above = λ k d within more. h.above (suc k) d (omega arith) (omega arith);
    }))
    ∙ omega arith
count_run p (x ∷ xs) (suc a) (suc b) h =
    count_no p x xs (h.below 0 x (omega arith) (omega arith))
    ∙ count_run p xs a b (record {
      below = λ k d within less. h.below (suc k) d (omega arith) (omega arith);
      inside = λ k d within low high. h.inside (suc k) d (omega arith) (omega arith) (omega arith);
      above = λ k d within more. h.above (suc k) d (omega arith) (omega arith);
    })
    ∙ omega arith

-- All before a place pass, and none from it on.
pub count_split : {X : Type 0} (p : X → Bool) (xs : List X) (i : ℕ) → i ≤ length xs →
    AllWithin (λ x. p x ≡ true) xs 0 i → AllWithin (λ x. p x ≡ false) xs i (length xs) →
    i ≡ count_by p xs
count_split p xs i short front behind =
    sym (count_run p xs 0 i (record {
      below = λ k d within less. absurd (omega arith);
      inside = λ k d within low high. front k d (omega arith) high;
      above = λ k d within more. behind k d more within;
    })
    ∙ omega arith)

pub not_true : (b : Bool) → (b ≡ true → ⊥) → b ≡ false
not_true true h = absurd (h refl)
not_true false h = refl

pub not_both : {P : Type 0} (b : Bool) → b ≡ true → b ≡ false → P
not_both true e f = absurd cc
not_both false e f = absurd cc

module _ {X : Type 0} (p : X → Bool) (xs : List X) (parted : IsPartitionedBy p xs) where
  count_is_prefix : prefix_len p xs ≡ count_by p xs
  count_is_prefix =
      count_split p xs (prefix_len p xs) (prefix_len-le-length p xs)
      (λ k d low high. prefix_len_passes p xs k d high)
      (λ k d low high. not_true (p (get_or xs k d)) (λ e.
      not_both (p (get_or xs (prefix_len p xs) d)) (parted (prefix_len p xs) k d low high e)
      (prefix_len_stops p xs d (omega arith))))

  pub passes_before : (k : ℕ) (d : X) → k < count_by p xs → p (get_or xs k d) ≡ true
  passes_before k d less =
      let e = count_is_prefix in prefix_len_passes p xs k d (omega arith)

  pub fails_from : (k : ℕ) (d : X) → k < length xs → count_by p xs ≤ k → p (get_or xs k d) ≡ false
  fails_from k d within more =
      let e = count_is_prefix in
      not_true (p (get_or xs k d)) (λ t.
      not_both (p (get_or xs (prefix_len p xs) d))
      (parted (prefix_len p xs) k d (omega arith) within t)
      (prefix_len_stops p xs d (omega arith)))

-- Members that are made of others.
pub count_by-map : {X Y : Type 0} (p : Y → Bool) (f : X → Y) (xs : List X) →
    count_by p (map f xs) ≡ count_by (λ x. p (f x)) xs
count_by-map p f [] = refl
count_by-map p f (x ∷ xs) =
    sum_by-cons (λ y. cond (p y) 1 0) (f x) (map f xs)
    ∙ ap (λ n. cond (p (f x)) 1 0 + n) (count_by-map p f xs)
    ∙ sym (sum_by-cons (λ y. cond (p (f y)) 1 0) x xs)
