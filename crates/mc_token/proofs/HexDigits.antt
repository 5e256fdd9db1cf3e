-- The bytes of hexadecimal digits: one step at a place, and the digits that they have.
use Rattle.std.proofs.Common.{◌≡◌, ℕ, ◌+◌, ◌*◌, ◌/◌, ◌%◌, ◌<◌, ◌≤◌, ◌==◌, Bool, true, false, map, inl, inr, List, [], ◌∷◌, ◌++◌, length, drop, get_or, refl, ap, sym, append_assoc, append-nil, ◌∙◌, arith}
use Rattle.std.proofs.lemmas.Bool.{cases_lt, eqb-true, eqb-false}
use Rattle.std.proofs.lemmas.Bool.Decides.{nat_tests}
use Rattle.std.proofs.lemmas.List.{at_drop_more, at_drop_all, drop_more}
use Rattle.mc_token.specs.Hexadecimal.{digit_value, paired, bytes_of_digits, values_of, two_digits}
use Rattle.mc_token.specs.Bytes.{digit_zero}

-- The byte of the digit at a place and the next one.
abbrev pub pair_value : List ℕ → ℕ → ℕ
pair_value digits at =
    16 * digit_value (get_or digits at 0) + digit_value (get_or digits (at + 1) 0)

paired-step : (digits : List ℕ) (at : ℕ) → at + 1 < length digits
    → paired (drop at digits) ≡ pair_value digits at ∷ paired (drop (at + 2) digits)
unfolding paired
paired-step digits at h =
    at_drop_more paired digits at 0 (omega arith)
    ∙ ap (λ rest. paired (get_or digits at 0 ∷ rest)) (drop_more digits (at + 1) 0 h)
    ∙ ap (λ n. pair_value digits at ∷ paired (drop n digits)) (omega arith)

-- no pair is left
paired-done : (digits : List ℕ) (at : ℕ) → length digits ≤ at + 1 → paired (drop at digits) ≡ []
unfolding paired
paired-done digits at h = elim (cases_lt at (length digits)) [
  | inl more ↦
      at_drop_more paired digits at 0 more
      ∙ at_drop_all (λ rest. paired (get_or digits at 0 ∷ rest)) digits (at + 1) h
  | inr none ↦ at_drop_all paired digits at none
]

-- A pair behind this text goes on with it.
pub paired-more : (text digits : List ℕ) (at : ℕ) → at + 1 < length digits
    → (text ++ pair_value digits at ∷ []) ++ paired (drop (at + 2) digits)
    ≡ text ++ paired (drop at digits)
paired-more text digits at h =
    append_assoc text (pair_value digits at ∷ []) (paired (drop (at + 2) digits))
    ∙ ap (λ rest. text ++ rest) (sym (paired-step digits at h))

pub paired-end : (text digits : List ℕ) (at : ℕ) → length digits ≤ at + 1
    → text ++ paired (drop at digits) ≡ text
paired-end text digits at h =
    ap (λ rest. text ++ rest) (paired-done digits at h) ∙ append-nil text

pub ruleset paired_steps = (paired-more, paired-end)

-- The digits of the bytes

digit_value-low : (byte : ℕ) → digit_value byte < 16
digit_value-low byte = grind (arith, nat_tests)

two_digits-one : (sixteens ones : ℕ) → ones < 16
    → ((16 * sixteens + ones) / 16 ≡ sixteens) × ((16 * sixteens + ones) % 16 ≡ ones)
two_digits-one sixteens ones low = (omega arith, omega arith)

-- The digits of pairs are those that were read.
paired-digits : (digits : List ℕ) → length digits % 2 ≡ 0
    → two_digits (paired digits) ≡ map digit_value digits
unfolding paired
paired-digits [] even = refl
paired-digits (digit ∷ []) even = absurd (cc)
paired-digits (sixteens ∷ ones ∷ digits) even =
    let s = digit_value sixteens in
    let o = digit_value ones in
    let one = two_digits-one s o (digit_value-low ones) in
    let rest = paired-digits digits (omega (arith, even)) in
    ap (λ d. d ∷ (16 * s + o) % 16 ∷ two_digits (paired digits)) one.0
    ∙ ap (λ d. s ∷ d ∷ two_digits (paired digits)) one.1
    ∙ ap (λ l. s ∷ o ∷ l) rest

bytes-digits-by : (digits : List ℕ) (is_odd : Bool) → (length digits % 2 == 1) ≡ is_odd
    → two_digits (bytes_of_digits digits) ≡ values_of digits
bytes-digits-by digits true e =
    let odd : length digits % 2 ≡ 1 = eqb-true (length digits % 2) 1 e in
    let even : length (digit_zero ∷ digits) % 2 ≡ 0 = omega (arith, odd) in
    rw e (paired-digits (digit_zero ∷ digits) even)
bytes-digits-by digits false e =
    let not_odd = eqb-false (length digits % 2) 1 e in
    let even : length digits % 2 ≡ 0 = omega (arith, not_odd) in
    rw e (paired-digits digits even)

pub bytes-digits : (digits : List ℕ) → two_digits (bytes_of_digits digits) ≡ values_of digits
bytes-digits digits = bytes-digits-by digits (length digits % 2 == 1) refl
