-- Rows that are shown in order, within the limit.
use Rattle.std.proofs.Common.{◌≡◌, ℕ, zero, suc, ◌+◌, ◌-◌, ◌<◌, ◌≤◌, Bool, true, false, List, []}
use Rattle.std.proofs.Common.{◌∷◌, ◌++◌, None, Some, refl, sym, ap, ◌∙◌, append_assoc, take, drop}
use Rattle.std.proofs.Common.{arith}
use Rattle.std.proofs.lemmas.Bool.Decides.{nat_tests}
use Rattle.std.specs.Prelude.{Option, nat_le, nat_lt, option_and_then, option_map, ◌&&◌}
use Rattle.std.specs.Prelude.{if◌then◌else◌}
use Rattle.mc_exec.specs.FullScan.{limited}
use Rattle.mc_exec.specs.Given.{all_of}
use Rattle.mc_exec.specs.Steps.{is_shown, shown_with, with_shown}

module _ {B : Type 0} (limit : Option (ℕ × ℕ)) where
  -- The members that are shown from a place on.
  window : ℕ → List B → List B
  window place [] = []
  window place (y ∷ ys) =
      if is_shown limit place then y ∷ window (place + 1) ys else window (place + 1) ys

  append_empty : (xs : List B) → xs ++ [] ≡ xs
  append_empty [] = refl
  append_empty (x ∷ xs) = ap (λ l. x ∷ l) (append_empty xs)

  moved : (shown : List B) (it : B) (b : Bool) (more : List B)
      → (if b then shown ++ it ∷ [] else shown) ++ more
      ≡ shown ++ (if b then it ∷ more else more)
  moved shown it true more = simp append_assoc
  moved shown it false more = refl

  module _ {A : Type 0} (given : A → Option B) where
    abbrev shown_behind : List B → ℕ → Option (List B) → Option (List B)
    shown_behind shown place ys = option_map (λ l. shown ++ window place l) ys

    step : (shown : List B) (place : ℕ) (it : B) (o : Option (List B))
        → shown_behind (shown_with limit place shown it) (place + 1) o
        ≡ shown_behind shown place (option_map (λ l. it ∷ l) o)
    unfolding window
    step shown place it None = refl
    step shown place it (Some l) =
        ap (λ z. Some z) (moved shown it (is_shown limit place) (window (place + 1) l))

    with_shown_is : (shown : List B) (place : ℕ) (xs : List A)
        → with_shown given limit place shown xs ≡ shown_behind shown place (all_of given xs)
    unfolding with_shown all_of window
    with_shown_is shown place [] = ap (λ l. Some l) (sym (append_empty shown))
    with_shown_is shown place (x ∷ xs) = elim (given x) as (λ o.
        option_and_then
        (λ it. with_shown given limit (place + 1) (shown_with limit place shown it) xs) o
        ≡ shown_behind shown place
        (option_and_then (λ it. option_map (λ l. it ∷ l) (all_of given xs)) o)) [
          | None ↦ refl
          | Some it ↦ with_shown_is (shown_with limit place shown it) (place + 1) xs
              ∙ step shown place it (all_of given xs)
        ]

take_none : {B : Type 0} (n : ℕ) (ys : List B) → n ≡ 0 → take n ys ≡ []
take_none n ys e = ap (λ m. take m ys) e

take_cons : {B : Type 0} (n m : ℕ) (y : B) (ys : List B) → n ≡ suc m
    → take n (y ∷ ys) ≡ y ∷ take m ys
take_cons n m y ys e = ap (λ k. take k (y ∷ ys)) e

drop_cons : {B : Type 0} (n m : ℕ) (y : B) (ys : List B) → n ≡ suc m → drop n (y ∷ ys) ≡ drop m ys
drop_cons n m y ys e = ap (λ k. drop k (y ∷ ys)) e

drop_none : {B : Type 0} (n : ℕ) (ys : List B) → n ≡ 0 → drop n ys ≡ ys
drop_none n ys e = ap (λ m. drop m ys) e

take_drop_empty : {B : Type 0} (n m : ℕ) (ys : List B) → ys ≡ [] → take n (drop m ys) ≡ []
take_drop_empty zero m ys e = refl
take_drop_empty (suc n) zero ys e = ap (take (suc n)) e
take_drop_empty (suc n) (suc m) ys e = ap (λ l. take (suc n) (drop (suc m) l)) e

module _ {B : Type 0} (limit : ℕ × ℕ) where
  abbrev cut : ℕ → List B → List B
  cut place ys = take (limit.1 - (place - limit.0)) (drop (limit.0 - place) ys)

  before : (place : ℕ) (y : B) (ys : List B) → place < limit.0
      → cut place (y ∷ ys) ≡ cut (place + 1) ys
  before place y ys h =
      ap (take (limit.1 - (place - limit.0)))
      (drop_cons (limit.0 - place) (limit.0 - (place + 1)) y ys (omega arith))
      ∙ ap (λ n. take n (drop (limit.0 - (place + 1)) ys)) (omega arith)

  within : (place : ℕ) (y : B) (ys : List B) → limit.0 ≤ place → place - limit.0 < limit.1
      → cut place (y ∷ ys) ≡ y ∷ cut (place + 1) ys
  within place y ys h k =
      ap (take (limit.1 - (place - limit.0))) (drop_none (limit.0 - place) (y ∷ ys) (omega arith))
      ∙ (take_cons (limit.1 - (place - limit.0)) (limit.1 - (place + 1 - limit.0)) y ys
      (omega arith)
      ∙ ap (λ l. y ∷ take (limit.1 - (place + 1 - limit.0)) l)
      (sym (drop_none (limit.0 - (place + 1)) ys (omega arith))))

  past : (place : ℕ) (y : B) (ys : List B) → limit.0 ≤ place → limit.1 ≤ place - limit.0
      → cut place (y ∷ ys) ≡ cut (place + 1) ys
  past place y ys h k =
      take_none (limit.1 - (place - limit.0)) (drop (limit.0 - place) (y ∷ ys)) (omega arith)
      ∙ sym (take_none (limit.1 - (place + 1 - limit.0)) (drop (limit.0 - (place + 1)) ys)
      (omega arith))

  here : (place : ℕ) (y : B) (ys more : List B) → more ≡ cut (place + 1) ys → (a b : Bool)
      → nat_le limit.0 place ≡ a → nat_lt (place - limit.0) limit.1 ≡ b
      → (if a && b then y ∷ more else more) ≡ cut place (y ∷ ys)
  here place y ys more i true true e f =
      let l : limit.0 ≤ place = grind (arith, nat_tests, e) in
      let k : place - limit.0 < limit.1 = grind (arith, nat_tests, f) in
      ap (λ l. y ∷ l) i ∙ sym (within place y ys l k)
  here place y ys more i true false e f =
      let l : limit.0 ≤ place = grind (arith, nat_tests, e) in
      let k : limit.1 ≤ place - limit.0 = grind (arith, nat_tests, f) in
      i ∙ sym (past place y ys l k)
  here place y ys more i false b e f =
      let l : place < limit.0 = grind (arith, nat_tests, e) in i ∙ sym (before place y ys l)

  window_cut : (place : ℕ) (ys : List B) → window (Some limit) place ys ≡ cut place ys
  unfolding window
  window_cut place [] = sym (take_drop_empty _ _ [] refl)
  window_cut place (y ∷ ys) = here place y ys (window (Some limit) (place + 1) ys)
      (window_cut (place + 1) ys) (nat_le limit.0 place) (nat_lt (place - limit.0) limit.1) refl
      refl

  cut_start : (ys : List B) → cut 0 ys ≡ take limit.1 (drop limit.0 ys)
  cut_start ys =
      let a : limit.1 - (0 - limit.0) ≡ limit.1 = omega arith in
      let b : limit.0 - 0 ≡ limit.0 = omega arith in
      ap (λ n. take n (drop (limit.0 - 0) ys)) a ∙ ap (λ n. take limit.1 (drop n ys)) b

window_all : {B : Type 0} (place : ℕ) (ys : List B) → window None place ys ≡ ys
unfolding window
window_all place [] = refl
window_all place (y ∷ ys) = ap (λ l. y ∷ l) (window_all (place + 1) ys)

window_limited : {B : Type 0} (limit : Option (ℕ × ℕ)) (ys : List B)
    → window limit 0 ys ≡ limited limit ys
window_limited None ys = window_all 0 ys
window_limited (Some l) ys = window_cut l 0 ys ∙ cut_start l ys

shown_all : {B : Type 0} (limit : Option (ℕ × ℕ)) (o : Option (List B))
    → option_map (λ l. [] ++ window limit 0 l) o ≡ option_map (limited limit) o
shown_all limit None = refl
shown_all limit (Some l) = ap (λ z. Some z) (window_limited limit l)

-- What is shown of what all members give.
pub all_shown : {A B : Type 0} (given : A → Option B) (limit : Option (ℕ × ℕ)) (xs : List A)
    → with_shown given limit 0 [] xs ≡ option_map (limited limit) (all_of given xs)
all_shown given limit xs =
    with_shown_is limit given [] 0 xs ∙ shown_all limit (all_of given xs)
