-- The rows of a sorted order, as they are shown.
use Rattle.std.proofs.Common.{◌≡◌, ℕ, zero, suc, ◌+◌, ◌<◌, List, [], ◌∷◌, None, Some}
use Rattle.std.proofs.Common.{refl, sym, ap}
use Rattle.std.proofs.Common.{◌∙◌, inl, inr, get_or, length, map, arith, subst}
use Rattle.std.proofs.lemmas.List.Elements.{All-from_recursion, recursion_from_All}
use Rattle.std.proofs.lemmas.List.Sorted.{All-permutation, IsPermutation-sym}
use Rattle.std.specs.List.{AllByRecursion, range_with_len}
use Rattle.std.specs.List.Sorted.{IsPermutation}
use Rattle.std.specs.Prelude.{All, Option, option_and_then, option_map}
use Rattle.mc_exec.proofs.Limits.{all_shown}
use Rattle.mc_exec.proofs.Placed.{placed}
use Rattle.mc_exec.proofs.Sorted.{In, in_permutation}
use Rattle.mc_exec.specs.FullScan.{limited}
use Rattle.mc_exec.specs.Given.{all_of}
use Rattle.mc_exec.specs.Steps.{with_shown}

range_in : (a n p d : ℕ) → p ≡ a + d → d < n → In p (range_with_len a n)
range_in a zero p d e h = absurd (omega arith)
range_in a (suc n) p zero e h = inl (e ∙ omega arith)
range_in a (suc n) p (suc d) e h = inr (range_in (a + 1) n p d (e ∙ omega arith) (omega arith))

range_below : (a n m : ℕ) → a + n ≡ m → AllByRecursion (λ p. p < m) (range_with_len a n)
range_below a zero m e = tt
range_below a (suc n) m e = (omega arith, range_below (a + 1) n m (omega (arith, e)))

pub places_below : (n : ℕ) (places : List ℕ) → IsPermutation (range_with_len 0 n) places
    → All (λ p. p < n) places
places_below n places h = All-permutation (λ p. p < n) (range_with_len 0 n) places h
    (All-from_recursion (λ p. p < n) (range_with_len 0 n) (range_below 0 n n (omega arith)))

mapped : {A B C : Type 0} (f : A → B) (h : B → C) (o : Option A)
    → option_map h (option_map f o) ≡ option_map (λ x. h (f x)) o
mapped f h None = refl
mapped f h (Some x) = refl

pub shown_in_order : {A B : Type 0} (given : A → Option B) (a : A) (b : B)
    (limit : Option (ℕ × ℕ)) (rows : List A) (n : ℕ) (places wanted : List ℕ) (first : List B)
    → first ≡ [] → n ≡ length rows → IsPermutation (range_with_len 0 n) places → places ≡ wanted
    → with_shown (λ place. given (get_or rows place a)) limit 0 first places
    ≡ option_map (λ items. limited limit (map (λ place. get_or items place b) wanted))
    (all_of given rows)
shown_in_order given a b limit rows n places wanted first e k h w =
    let P : ℕ → Type 0 = λ m. AllByRecursion (λ p. p < m) places in
    let below = subst P k (recursion_from_All (λ p. p < n) places (places_below n places h)) in
    let all = λ (p : ℕ) (lt : p < length rows). in_permutation places (range_with_len 0 n)
    (IsPermutation-sym (range_with_len 0 n) places h) p
    (range_in 0 n p p (omega arith) (omega (arith, k))) in
    ap (λ l. with_shown (λ place. given (get_or rows place a)) limit 0 l places) e
    ∙ (all_shown (λ place. given (get_or rows place a)) limit places
    ∙ (ap (option_map (limited limit)) (placed given a b rows places below all)
    ∙ (mapped (λ items. map (λ place. get_or items place b) places) (limited limit)
    (all_of given rows)
    ∙ ap (λ l. option_map (λ items. limited limit (map (λ place. get_or items place b) l))
    (all_of given rows)) w)))

-- What is given of the members of a list that is seen through a function.
pub all_of_map : {A B C : Type 0} (f : A → B) (given : B → Option C) (xs : List A)
    → all_of (λ x. given (f x)) xs ≡ all_of given (map f xs)
unfolding all_of
all_of_map f given [] = refl
all_of_map f given (x ∷ xs) = ap (λ o. option_and_then
    (λ one. option_map (λ others. one ∷ others) o) (given (f x))) (all_of_map f given xs)

count_in : {B : Type 0} (n : ℕ) (o : Option B) (p : Option (List B)) (ys : List B)
    → ((l : List B) → p ≡ Some l → length l ≡ n)
    → option_and_then (λ first. option_map (λ others. first ∷ others) p) o ≡ Some ys
    → length ys ≡ suc n
count_in n None p ys f e = absurd (cc)
count_in n (Some first) None ys f e = absurd (cc)
count_in n (Some first) (Some l) ys f e =
    let s : first ∷ l ≡ ys = cc in ap length (sym s) ∙ ap suc (f l refl)

pub count_all : {A B : Type 0} (given : A → Option B) (xs : List A) (ys : List B)
    → all_of given xs ≡ Some ys → length ys ≡ length xs
unfolding all_of
count_all given [] ys e = let f : [] ≡ ys = cc in ap length (sym f)
count_all given (x ∷ xs) ys e =
    count_in (length xs) (given x) (all_of given xs) ys (λ l f. count_all given xs l f) e
