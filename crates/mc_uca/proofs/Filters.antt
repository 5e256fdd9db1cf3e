-- The members from a place on that pass a test, and a search over numbers.
use Rattle.std.proofs.Common.{◌≡◌, ◌⊎◌, ℕ, zero, suc, ◌+◌, ◌<◌, ◌≤◌, ◌&&◌, Bool, true, false, cond, List, [], ◌∷◌, length, drop, filter, slice_index_or, refl, sym, ap, subst, ◌∙◌, inl, inr, arith}
use Rattle.std.proofs.lemmas.Bool.{cases_lt}
use Rattle.mc_charset.specs.declared.charset.Charset.{Charset}
use Rattle.mc_charset.specs.Chars.{code_points}
use Rattle.mc_order.specs.Floor.{each_below, weighs_if_char, weighs}
use Rattle.mc_order.specs.Tails.{has_members}

drop_at : (xs : List (List ℕ)) (n : ℕ) → n < length xs →
    drop n xs ≡ slice_index_or xs n [] ∷ drop (n + 1) xs
drop_at [] n lt = absurd (omega arith)
drop_at (x ∷ xs) zero lt = refl
drop_at (x ∷ xs) (suc n) lt =
    let e : suc n + 1 ≡ suc (n + 1) = omega arith in rw e (drop_at xs n (omega arith))

filter_one : (p : List ℕ → Bool) (x : List ℕ) (xs : List (List ℕ)) (b : Bool) → p x ≡ b →
    filter p (x ∷ xs) ≡ cond b (x ∷ filter p xs) (filter p xs)
filter_one p x xs b e = ap (λ t. cond t (x ∷ filter p xs) (filter p xs)) e

-- A member that passes, and one that doesn't.
pub filter_passing : (p : List ℕ → Bool) (xs : List (List ℕ)) (n : ℕ) (x : List ℕ) →
    n < length xs → x ≡ slice_index_or xs n [] → p x ≡ true →
    filter p (drop n xs) ≡ x ∷ filter p (drop (n + 1) xs)
filter_passing p xs n x lt is e =
    ap (filter p) (drop_at xs n lt) ∙ ap (λ y. filter p (y ∷ drop (n + 1) xs)) (sym is)
    ∙ filter_one p x (drop (n + 1) xs) true e

pub filter_failing : (p : List ℕ → Bool) (xs : List (List ℕ)) (n : ℕ) (x : List ℕ) →
    n < length xs → x ≡ slice_index_or xs n [] → p x ≡ false →
    filter p (drop n xs) ≡ filter p (drop (n + 1) xs)
filter_failing p xs n x lt is e =
    ap (filter p) (drop_at xs n lt) ∙ ap (λ y. filter p (y ∷ drop (n + 1) xs)) (sym is)
    ∙ filter_one p x (drop (n + 1) xs) false e

gone : (xs : List (List ℕ)) (n : ℕ) → length xs ≤ n → drop n xs ≡ []
gone [] zero le = refl
gone [] (suc n) le = refl
gone (x ∷ xs) zero le = absurd (omega arith)
gone (x ∷ xs) (suc n) le = gone xs n (omega arith)

pub filter_end : (p : List ℕ → Bool) (xs : List (List ℕ)) (n : ℕ) → length xs ≤ n →
    filter p (drop n xs) ≡ []
filter_end p xs n le = ap (filter p) (gone xs n le)

join : (a b : Bool) → a ≡ true → b ≡ true → (a && b) ≡ true
join true b ea eb = eb
join false b ea eb = absurd cc

-- A search that went on, and one that ended.
pub each_none : (test : ℕ → Bool) → each_below 0 test ≡ true
unfolding each_below
each_none test = refl

pub each_more : (n : ℕ) (test : ℕ → Bool) → each_below n test ≡ true → test n ≡ true →
    each_below (n + 1) test ≡ true
unfolding each_below
each_more n test e t =
    let more : n + 1 ≡ suc n = omega arith in rw more (join (test n) (each_below n test) t e)

no_join : (a b : Bool) → b ≡ false → (a && b) ≡ false
no_join true b e = e
no_join false b e = refl

not_first : (a b : Bool) → a ≡ false → (a && b) ≡ false
not_first true b e = absurd cc
not_first false b e = refl

ends_at : (n i : ℕ) (test : ℕ → Bool) → i < suc n → test i ≡ false → (i < n) ⊎ (n ≤ i) →
    (i < n → each_below n test ≡ false) → (test n && each_below n test) ≡ false
ends_at n i test lt e (inl less) rest = no_join (test n) (each_below n test) (rest less)
ends_at n i test lt e (inr more) rest =
    let is : i ≡ n = omega arith in
    not_first (test n) (each_below n test) (subst (λ k. test k ≡ false) is e)

pub each_ends : (n i : ℕ) (test : ℕ → Bool) → i < n → test i ≡ false → each_below n test ≡ false
unfolding each_below
each_ends zero i test lt e = absurd (omega arith)
each_ends (suc n) i test lt e =
    ends_at n i test lt e (cases_lt i n) (λ less. each_ends n i test less e)

pub ruleset searches = (each_none, each_more, each_ends)

pub none_weighs : (set : Charset) (first : List ℕ → List ℕ) (contractions : List (List ℕ)) →
    has_members contractions ≡ true → weighs set first contractions ≡ false
unfolding weighs
none_weighs set first contractions e = rw e refl

pub all_weigh : (set : Charset) (first : List ℕ → List ℕ) (contractions : List (List ℕ)) →
    has_members contractions ≡ false →
    weighs set first contractions ≡ each_below code_points (weighs_if_char set first)
unfolding weighs
all_weigh set first contractions e = rw e refl

pub ruleset weighing = (none_weighs, all_weigh)
