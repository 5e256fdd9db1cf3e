-- Binary digits: halving a number takes one away.
use Rattle.std.proofs.Common.{◌≡◌, ℕ, zero, suc, ◌+◌, ◌*◌, ◌/◌, ◌^◌, ◌<◌, ◌≤◌, refl, sym, ap, ◌∙◌}
use Rattle.std.proofs.Common.{add-one}
use Rattle.std.proofs.Common.{◌==◌, false, if◌then◌else◌, arith}
use Rattle.std.proofs.lemmas.Bool.Decides.{nat_tests}
use Rattle.std.proofs.lemmas.Nat.{pow-add}
use Rattle.mc_index.specs.Digits.{binary_digits, digits_within}

none_within : (most : ℕ) → digits_within most 0 ≡ 0
unfolding digits_within
none_within zero = refl
none_within (suc most) = refl

some_is_not_none : (n : ℕ) → (suc n == 0) ≡ false
some_is_not_none n = grind (arith, nat_tests)

more_within : (most n : ℕ) →
    digits_within (suc most) (suc n) ≡ suc (digits_within most (suc n / 2))
unfolding digits_within
more_within most n =
    ap (λ b. if b then 0 else suc (digits_within most (suc n / 2))) (some_is_not_none n)

same_within : (most other n : ℕ) → n ≤ most → n ≤ other →
    digits_within most n ≡ digits_within other n
same_within most other zero a b = none_within most ∙ sym (none_within other)
same_within zero other (suc n) a b = absurd (omega arith)
same_within (suc most) zero (suc n) a b = absurd (omega arith)
same_within (suc most) (suc other) (suc n) a b =
    more_within most n
    ∙ ap suc (same_within most other (suc n / 2) (omega arith) (omega arith))
    ∙ sym (more_within other n)

pub half_digits : (n : ℕ) → 0 < n → binary_digits n ≡ suc (binary_digits (n / 2))
half_digits zero some = absurd (omega arith)
half_digits (suc n) some =
    more_within n n ∙ ap suc (same_within n (suc n / 2) (suc n / 2) (omega arith) (omega arith))

rises_within : (most m n : ℕ) → m ≤ n → n ≤ most → digits_within most m ≤ digits_within most n
rises_within most zero n less within = let e = none_within most in omega arith
rises_within most (suc m) zero less within = absurd (omega arith)
rises_within zero (suc m) (suc n) less within = absurd (omega arith)
rises_within (suc most) (suc m) (suc n) less within =
    let a = more_within most m in
    let b = more_within most n in
    let h = rises_within most (suc m / 2) (suc n / 2) (omega arith) (omega arith) in
    omega arith

-- A greater number has no fewer digits.
pub digits_rise : (m n : ℕ) → m ≤ n → binary_digits m ≤ binary_digits n
digits_rise m n less =
    let e = same_within m n m (omega arith) less in
    let h = rises_within n m n less (omega arith) in
    omega arith

double : (k : ℕ) → 2 ^ suc k ≡ 2 * 2 ^ k
double k = ap (λ n. 2 ^ n) (sym (add-one k) ∙ omega arith) ∙ pow-add 2 1 k

enough_within : (most n : ℕ) → n ≤ most → n < 2 ^ digits_within most n
enough_within most zero within =
    let e : 2 ^ digits_within most 0 ≡ 1 = ap (λ k. 2 ^ k) (none_within most) in omega arith
enough_within zero (suc n) within = absurd (omega arith)
enough_within (suc most) (suc n) within =
    let e = ap (λ k. 2 ^ k) (more_within most n) in
    let d = double (digits_within most (suc n / 2)) in
    let h = enough_within most (suc n / 2) (omega arith) in
    omega arith

pub digits_enough : (n : ℕ) → n < 2 ^ binary_digits n
digits_enough n = enough_within n n (omega arith)

least_within : (most n : ℕ) → 0 < n → n ≤ most → 2 ^ digits_within most n ≤ 2 * n
least_within most zero some within = absurd (omega arith)
least_within zero (suc n) some within = absurd (omega arith)
least_within (suc most) (suc zero) some within =
    let e = ap (λ k. 2 ^ k) (more_within most 0 ∙ ap suc (none_within most)) in omega arith
least_within (suc most) (suc (suc n)) some within =
    let e = ap (λ k. 2 ^ k) (more_within most (suc n)) in
    let d = double (digits_within most (suc (suc n) / 2)) in
    let h = least_within most (suc (suc n) / 2) (omega arith) (omega arith) in
    omega arith

pub digits_least : (n : ℕ) → 2 ^ binary_digits n ≤ 2 * n + 1
digits_least zero = let e = ap (λ k. 2 ^ k) (none_within 0) in omega arith
digits_least (suc n) =
    let h = least_within (suc n) (suc n) (omega arith) (omega arith) in omega arith
