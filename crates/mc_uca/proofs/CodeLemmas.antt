-- Fronts of lists of codes, as loops take them.
use Rattle.std.proofs.Common.{◌≡◌, ℕ, zero, suc, ◌+◌, ◌-◌, ◌<◌, ◌≤◌, ◌&&◌, Bool, true, false, List, [], ◌∷◌, ◌++◌, Option, Some, None, length, length-drop, take, drop, set, append_assoc, append-nil, take_all, refl, sym, ap, ◌∙◌, arith}
use Rattle.std.specs.List.{list_all}
use Rattle.std.specs.Option.{is_some}
use Rattle.std.proofs.lemmas.List.{take_at, take_more_set}
use Rattle.std.proofs.lemmas.List.Folds.{list_all-append}

pub drop_none : (n : ℕ) → drop {A = ℕ} n [] ≡ []
drop_none zero = refl
drop_none (suc n) = refl

-- Behind the end there is nothing more.
pub drop_more : (n m : ℕ) (codes rest : List ℕ) → rest ≡ drop n codes → n ≤ m → rest ≡ [] →
    rest ≡ drop m codes
drop_more zero m codes rest e le none =
    let gone : codes ≡ [] = sym e ∙ none in none ∙ sym (drop_none m) ∙ ap (drop m) (sym gone)
drop_more (suc n) m [] rest e le none = none ∙ sym (drop_none m)
drop_more (suc n) zero (c ∷ cs) rest e le none = absurd (omega arith)
drop_more (suc n) (suc m) (c ∷ cs) rest e le none = drop_more n m cs rest e (omega arith) none

-- One code more is dropped.
pub drop_next : (n : ℕ) (codes : List ℕ) (code : ℕ) (rest : List ℕ) →
    drop n codes ≡ code ∷ rest → drop (n + 1) codes ≡ rest
drop_next zero codes code rest e = ap (drop 1) e
drop_next (suc n) [] code rest e = absurd cc
drop_next (suc n) (c ∷ cs) code rest e =
    let more : suc n + 1 ≡ suc (n + 1) = omega arith in rw more (drop_next n cs code rest e)

-- A front that is everything, and one of so many codes.
pub front_all : (m : ℕ) (front rest codes : List ℕ) → front ++ rest ≡ codes → rest ≡ [] →
    length front ≤ m → front ≡ take m codes
front_all m front rest codes e none le =
    let whole : front ≡ codes = sym (append-nil front) ∙ ap (λ r. front ++ r) (sym none) ∙ e in
    let short = ap length whole in
    whole ∙ sym (take_all m codes (omega arith))

pub front_part : (m : ℕ) (front rest codes : List ℕ) → front ++ rest ≡ codes → length front ≡ m →
    front ≡ take m codes
front_part m front rest codes e long = sym (take_at front rest m long) ∙ ap (take m) e

-- One code more is written behind those before it.
pub written_more : (window : List ℕ) (count code : ℕ) (rest left codes : List ℕ) →
    count < length window → take count window ++ left ≡ codes → left ≡ code ∷ rest →
    take (count + 1) (set window count code) ++ rest ≡ codes
written_more window count code rest left codes lt e is =
    ap (λ front. front ++ rest) (take_more_set window count code lt)
    ∙ append_assoc (take count window) (code ∷ []) rest
    ∙ ap (λ more. take count window ++ more) (sym is) ∙ e

both_true : (a b : Bool) → a ≡ true → b ≡ true → (a && b && true) ≡ true
both_true a b ea eb = rw (ea, eb) refl

is_there : (found : Option (List ℕ)) (text : List ℕ) → found ≡ Some text → is_some found ≡ true
is_there None text e = absurd cc
is_there (Some t) text e = refl

pub all_more : (test : ℕ → Option (List ℕ)) (window : List ℕ) (count code : ℕ) (text : List ℕ) →
    count < length window → list_all (λ c. is_some (test c)) (take count window) ≡ true →
    test code ≡ Some text →
    list_all (λ c. is_some (test c)) (take (count + 1) (set window count code)) ≡ true
all_more test window count code text lt all is =
    ap (list_all (λ c. is_some (test c))) (take_more_set window count code lt)
    ∙ list_all-append (λ c. is_some (test c)) (take count window) (code ∷ [])
    ∙ rw (all, is_there (test code) text is) refl

-- What a slice from a place on is.
pub rest_is : (codes : List ℕ) (n : ℕ) → take (length codes - n) (drop n codes) ≡ drop n codes
rest_is codes n = take_all (length codes - n) (drop n codes) (omega (arith, length-drop n codes))

parts : (a b : Bool) → (a && b) ≡ true → (a ≡ true) × (b ≡ true)
parts true b e = (refl, e)
parts false b e = absurd cc

pub all_behind : (p : ℕ → Bool) (n : ℕ) (codes : List ℕ) → list_all p codes ≡ true →
    list_all p (drop n codes) ≡ true
all_behind p zero codes e = e
all_behind p (suc n) [] e = refl
all_behind p (suc n) (c ∷ cs) e = all_behind p n cs (parts (p c) (list_all p cs) e).1

pub ruleset fronts = (drop_more, drop_next, front_all, front_part, written_more, all_more)
