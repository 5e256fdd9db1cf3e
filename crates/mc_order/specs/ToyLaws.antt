-- The small kind of the tests keeps the laws.
use Rattle.std.proofs.Common.{◌≡◌, ◌≢◌, ◌⊎◌, ◌↔◌, ℕ, zero, suc, ◌+◌}
use Rattle.std.proofs.Common.{◌-◌, ◌<◌, ◌≤◌, ◌==◌, Bool}
use Rattle.std.proofs.Common.{true, false, cond, List, [], ◌∷◌, ◌++◌, append_assoc}
use Rattle.std.proofs.Common.{append-nil}
use Rattle.std.proofs.Common.{length, take, refl, sym, ap, ◌∙◌, inl, inr, arith}
use Rattle.std.specs.List.{All, Contains}
use Rattle.std.specs.Prelude.{slice_index_or, if◌then◌else◌}
use Rattle.std.proofs.lemmas.Bool.Decides.{nat_tests}
use Rattle.std.proofs.lemmas.List.Elements.{All-nil, All-cons, All-append}
use Rattle.mc_charset.specs.declared.charset.Charset.TheVariants.{Binary}
use Rattle.mc_charset.specs.Chars.{spell, spell_all, code_points}
use Rattle.mc_charset.specs.CodePoints.{spelled_code_point}
use Rattle.mc_order.specs.Order.{list_order, order_to_end}
use Rattle.mc_order.specs.Meaning.{separator, flat_list, IsHead, IsSafe, AreCharsOf}
use Rattle.mc_order.specs.Laws.{greatest_weight, IsWeight, IsCut, KeepsSettings}
use Rattle.mc_order.specs.Laws.{KeepsContractions, KeepsTails, IsLawful}
use Rattle.mc_order.specs.Characters.{AreCharsOf-parts}
use Rattle.mc_order.specs.Tails.{insert_list, ascending, fronts, tails_of}
use Rattle.mc_order.specs.TailsLaw.{KeepsTails-from}
use Rattle.mc_order.specs.Toy.{folded, capital_weights, begins_dzs, dzs_weights, toy_list}
use Rattle.mc_order.specs.Toy.{toy_meaning}

-- One step of the list, by whether dzs begins it.
pub toy_list-dzs : (level code : ℕ) (codes : List ℕ)
    → begins_dzs (code ∷ codes) ≡ true →
    toy_list 0 level (code ∷ codes) ≡ dzs_weights level ++ toy_list 2 level codes
unfolding toy_list
toy_list-dzs level code codes e = rw e refl

pub toy_list-char : (level code : ℕ) (codes : List ℕ)
    → begins_dzs (code ∷ codes) ≡ false →
    toy_list 0 level (code ∷ codes) ≡ capital_weights level (folded code)
    ++ toy_list 0 level codes
unfolding toy_list
toy_list-char level code codes e = rw e refl

pub toy_list-alone : (level code : ℕ) →
    toy_list 0 level (code ∷ []) ≡ capital_weights level (folded code)
unfolding toy_list
toy_list-alone level code = append-nil (capital_weights level (folded code))

pub toy_list-none : (skipped level : ℕ) → toy_list skipped level [] ≡ []
unfolding toy_list
toy_list-none skipped level = refl

pub toy_list-skips : (skipped level code : ℕ) (codes : List ℕ) →
    toy_list (suc skipped) level (code ∷ codes) ≡ toy_list skipped level codes
unfolding toy_list
toy_list-skips skipped level code codes = refl

toy_tails : KeepsTails toy_meaning
unfolding tails_of ascending insert_list fronts list_order order_to_end toy_list
toy_tails = KeepsTails-from toy_meaning refl

by_test : (b : Bool) (P : Type 0) → (b ≡ true → P) → (b ≡ false → P) → P
by_test true P holds fails = holds refl
by_test false P holds fails = fails refl

fits : (weight : ℕ) → 1 ≤ weight → weight ≤ greatest_weight
    → IsWeight toy_meaning weight
fits weight some below = (some, below, omega arith, omega arith)

one_fits : (weight : ℕ) → 1 ≤ weight → weight ≤ greatest_weight →
    All (IsWeight toy_meaning) (weight ∷ [])
one_fits weight some below =
    All-cons (IsWeight toy_meaning) weight [] (fits weight some below)
    (All-nil (IsWeight toy_meaning))

two_fit : (weight other : ℕ) → 1 ≤ weight → weight ≤ greatest_weight → 1 ≤ other →
    other ≤ greatest_weight → All (IsWeight toy_meaning) (weight ∷ other ∷ [])
two_fit weight other some below more within =
    All-cons (IsWeight toy_meaning) weight (other ∷ []) (fits weight some below)
    (one_fits other more within)

at_level : (first : Bool) (a b : List ℕ) → All (IsWeight toy_meaning) a →
    All (IsWeight toy_meaning) b → All (IsWeight toy_meaning) (cond first a b)
at_level true a b ha hb = ha
at_level false a b ha hb = hb

last_fits : (first : Bool) (code : ℕ) → code < code_points →
    All (IsWeight toy_meaning) (cond first (code + 1) 1 ∷ [])
last_fits true code below = one_fits (code + 1) (omega arith) (omega arith)
last_fits false code below = one_fits 1 (omega arith) (omega arith)

capital_fits : (level code : ℕ) → code < code_points →
    All (IsWeight toy_meaning) (capital_weights level code)
capital_fits level code below =
    by_test (code == 0x2D) (All (IsWeight toy_meaning) (capital_weights level code))
    (λ is. rw is (All-nil (IsWeight toy_meaning)))
    (λ minus. by_test (code == 0x26) (All (IsWeight toy_meaning) (capital_weights level code))
    (λ is. rw (minus, is) (at_level (level == 1) (0x46 ∷ 0x55 ∷ []) (1 ∷ 1 ∷ [])
    (two_fit 0x46 0x55 (omega arith) (omega arith) (omega arith) (omega arith))
    (two_fit 1 1 (omega arith) (omega arith) (omega arith) (omega arith))))
    (λ and. by_test (code == 0xE1) (All (IsWeight toy_meaning) (capital_weights level code))
    (λ is. rw (minus, and, is) (at_level (level == 1) (0x42 ∷ []) (2 ∷ [])
    (one_fits 0x42 (omega arith) (omega arith)) (one_fits 2 (omega arith) (omega arith))))
    (λ acute. rw (minus, and, acute) (last_fits (level == 1) code below))))

folded_below : (code : ℕ) → code < code_points → folded code < code_points
folded_below code below = grind (arith, nat_tests)

dzs_fits : (first : Bool) → All (IsWeight toy_meaning) (cond first 0x100 1 ∷ [])
dzs_fits true = one_fits 0x100 (omega arith) (omega arith)
dzs_fits false = one_fits 1 (omega arith) (omega arith)

bounds : (skipped level : ℕ) (codes : List ℕ) → AreCharsOf Binary codes →
    All (IsWeight toy_meaning) (toy_list skipped level codes)
unfolding toy_list
bounds skipped level [] chars = All-nil (IsWeight toy_meaning)
bounds (suc skipped) level (code ∷ codes) chars =
    bounds skipped level codes (AreCharsOf-parts Binary code codes chars).1
bounds zero level (code ∷ codes) chars =
    let parts = AreCharsOf-parts Binary code codes chars in
    let below = spelled_code_point Binary code parts.0.0 parts.0.1 in
    at_level (begins_dzs (code ∷ codes)) (dzs_weights level ++ toy_list 2 level codes)
    (capital_weights level (folded code) ++ toy_list 0 level codes)
    (All-append (IsWeight toy_meaning) (dzs_weights level) (toy_list 2 level codes)
    (dzs_fits (level == 1)) (bounds 2 level codes parts.1))
    (All-append (IsWeight toy_meaning) (capital_weights level (folded code))
    (toy_list 0 level codes) (capital_fits level (folded code) (folded_below code below))
    (bounds 0 level codes parts.1))

-- What the first characters keep, and what they add.
abbrev HasCut : List ℕ → List ℕ → Type 0
HasCut front whole =
    (kept : List ℕ) × (tail : List ℕ) × (rest : List ℕ) × (front ≡ kept ++ tail) ×
    (whole ≡ kept ++ rest) × ((tail ≡ []) ⊎ Contains toy_meaning.tails tail)

extend : (weights front whole : List ℕ) → HasCut front whole →
    HasCut (weights ++ front) (weights ++ whole)
extend weights front whole h = (
  weights ++ h.0,
  h.1,
  h.2,
  ap (λ t. weights ++ t) h.3 ∙ sym (append_assoc weights h.0 h.1),
  ap (λ t. weights ++ t) h.4 ∙ sym (append_assoc weights h.0 h.2),
  h.5,
)

begins_less : (k code : ℕ) (codes : List ℕ) → begins_dzs (code ∷ codes) ≡ false →
    begins_dzs (code ∷ take k codes) ≡ false
begins_less zero code codes e = refl
begins_less (suc k) code [] e = refl
begins_less (suc zero) code (x ∷ codes) e = refl
begins_less (suc (suc k)) code (x ∷ []) e = refl
begins_less (suc (suc k)) code (x ∷ y ∷ codes) e = e

-- A cut inside dzs adds a tail.
dzs_cut : (k code : ℕ) (codes : List ℕ) → begins_dzs (code ∷ codes) ≡ true →
    HasCut (toy_list 2 1 (take k codes)) (toy_list 2 1 codes) →
    HasCut (toy_list 0 1 (code ∷ take k codes)) (toy_list 0 1 (code ∷ codes))
unfolding toy_list
dzs_cut k code [] e more = absurd cc
dzs_cut k code (x ∷ []) e more = absurd cc
dzs_cut zero code (x ∷ y ∷ codes) e more =
    let d : code ≡ 0x64 = grind (arith, nat_tests) in
    let front : toy_list 0 1 (code ∷ []) ≡ 0x45 ∷ [] = rw d refl in
    ([], 0x45 ∷ [], toy_list 0 1 (code ∷ x ∷ y ∷ codes), front, refl, inr (0, omega arith, refl))
dzs_cut (suc zero) code (x ∷ y ∷ codes) e more =
    let d : code ≡ 0x64 = grind (arith, nat_tests) in
    let z : x ≡ 0x7A = grind (arith, nat_tests) in
    let front : toy_list 0 1 (code ∷ x ∷ []) ≡ 0x45 ∷ 0x5B ∷ [] = rw (d, z) refl in (
      [],
      0x45 ∷ 0x5B ∷ [],
      toy_list 0 1 (code ∷ x ∷ y ∷ codes),
      front,
      refl,
      inr (1, omega arith, refl),
    )
dzs_cut (suc (suc k)) code (x ∷ y ∷ codes) e more =
    rw (toy_list-dzs 1 code (x ∷ y ∷ take k codes) e, toy_list-dzs 1 code (x ∷ y ∷ codes) e)
    (extend (dzs_weights 1) (toy_list 2 1 (x ∷ y ∷ take k codes))
    (toy_list 2 1 (x ∷ y ∷ codes))
    more)

cut_step : (k code : ℕ) (codes : List ℕ) (begins : Bool)
    → begins_dzs (code ∷ codes) ≡ begins →
    HasCut (toy_list 0 1 (take k codes)) (toy_list 0 1 codes) →
    HasCut (toy_list 2 1 (take k codes)) (toy_list 2 1 codes) →
    HasCut (toy_list 0 1 (code ∷ take k codes)) (toy_list 0 1 (code ∷ codes))
cut_step k code codes true e one more = dzs_cut k code codes e more
cut_step k code codes false e one more =
    let less = begins_less k code codes e in
    rw (toy_list-char 1 code (take k codes) less, toy_list-char 1 code codes e)
    (extend (capital_weights 1 (folded code)) (toy_list 0 1 (take k codes)) (toy_list 0 1 codes)
    one)

has_cut : (skipped k : ℕ) (codes : List ℕ) →
    HasCut (toy_list skipped 1 (take k codes)) (toy_list skipped 1 codes)
unfolding toy_list
has_cut skipped zero codes = ([], [], toy_list skipped 1 codes, refl, refl, inl refl)
has_cut skipped (suc k) [] = ([], [], [], refl, refl, inl refl)
has_cut (suc skipped) (suc k) (code ∷ codes) = has_cut skipped k codes
has_cut zero (suc k) (code ∷ codes) =
    cut_step k code codes (begins_dzs (code ∷ codes)) refl (has_cut 0 k codes) (has_cut 2 k codes)

cut : (k : ℕ) (codes : List ℕ) → IsCut toy_meaning k codes
cut k codes = let h = has_cut 0 k codes in record {
  kept = h.0;
  tail = h.1;
  rest = h.2;
  front = h.3;
  whole = h.4;
  none_or_tail = h.5;
  enough = inl (omega arith);
}

d_heads : IsHead toy_meaning 0x64
d_heads = (0x7A ∷ 0x73 ∷ [], (0, omega arith, refl))

head_is_d : (code : ℕ) → IsHead toy_meaning code → code ≡ 0x64
head_is_d code h = at h.1.0 h.1.1 h.1.2
  where
    at : (k : ℕ) → k < 1
        → slice_index_or toy_meaning.contractions k (code ∷ h.0) ≡ code ∷ h.0 →
        code ≡ 0x64
    at zero below e = let s : 0x64 ∷ 0x7A ∷ 0x73 ∷ [] ≡ code ∷ h.0 = e in cc
    at (suc k) below e = absurd (omega arith)

begins_not : (code : ℕ) (codes : List ℕ) → (code ≡ 0x64 → ⊥)
    → begins_dzs (code ∷ codes) ≡ false
begins_not code [] other = refl
begins_not code (x ∷ []) other = refl
begins_not code (x ∷ y ∷ codes) other = grind (arith, nat_tests)

head : (level code : ℕ) (codes : List ℕ) → (IsHead toy_meaning code → ⊥) →
    toy_list 0 level (code ∷ codes) ≡ toy_list 0 level (code ∷ []) ++ toy_list 0 level codes
head level code codes other =
    let not_d : code ≡ 0x64 → ⊥ = λ is. other (rw is d_heads) in
    toy_list-char level code codes (begins_not code codes not_d)
    ∙ ap (λ w. w ++ toy_list 0 level codes) (sym (toy_list-alone level code))

settings : KeepsSettings toy_meaning
settings = record {
  some_level = omega arith;
  three_levels = omega arith;
  levels_unpadded = λ more. refl;
  some_width = omega arith;
  three_wide = omega arith;
  one_added = omega arith;
  space_weight = refl;
}

contractions : KeepsContractions toy_meaning
unfolding spell spell_all
contractions =
    All-cons (λ codes. (2 ≤ length codes) × AreCharsOf Binary codes) (0x64 ∷ 0x7A ∷ 0x73 ∷ []) []
    (omega arith, (_, refl)) (All-nil (λ codes. (2 ≤ length codes) × AreCharsOf Binary codes))

pub toy_lawful : IsLawful toy_meaning
toy_lawful = record {
  settings = settings;
  bounds = λ level codes some within chars. bounds 0 level codes chars;
  empty = λ level some within. toy_list-none 0 level;
  cut = λ k codes chars. cut k codes;
  head = λ level code codes some within chars other. head level code codes other;
  floor_of = λ k. ((λ h. let none = h.0 in absurd cc), λ none. refl);
  contractions_of = contractions;
  tails_of = toy_tails;
}

-- The flat list of a capital.
abbrev flat_of : ℕ → List ℕ
flat_of code = capital_weights 1 code ++ separator ∷ capital_weights 2 code

flat_is : (code : ℕ) → flat_list toy_meaning (code ∷ []) ≡ flat_of (folded code)
flat_is code =
    ap (λ w. w ++ separator ∷ toy_list 0 2 (code ∷ [])) (toy_list-alone 1 code)
    ∙ ap (λ w. capital_weights 1 (folded code) ++ separator ∷ w) (toy_list-alone 2 code)

-- The capital that has a flat list.
abbrev shown : List ℕ → ℕ
shown (a ∷ []) = 0x2D
shown (a ∷ b ∷ c ∷ []) = if c == 2 then 0xE1 else a - 1
shown _ = 0x26

back : (n : ℕ) → n + 1 - 1 ≡ n
back n = omega arith

number : (code n : ℕ) → (code == n) ≡ true → n ≡ code
number code n is = grind (arith, nat_tests)

shown_is : (code : ℕ) → shown (flat_of code) ≡ code
shown_is code =
    by_test (code == 0x2D) (shown (flat_of code) ≡ code)
    (λ is. rw is (number code 0x2D is))
    (λ minus. by_test (code == 0x26) (shown (flat_of code) ≡ code)
    (λ is. rw (minus, is) (number code 0x26 is))
    (λ and. by_test (code == 0xE1) (shown (flat_of code) ≡ code)
    (λ is. rw (minus, and, is) (number code 0xE1 is))
    (λ acute. rw (minus, and, acute) (back code))))

-- Two characters are the same exactly where they are one letter.
pub toy_same : (c d : ℕ) →
    (folded c ≡ folded d)
    ↔ (flat_list toy_meaning (c ∷ []) ≡ flat_list toy_meaning (d ∷ []))
toy_same c d = (
  λ e. flat_is c ∙ ap flat_of e ∙ sym (flat_is d),
  λ e. sym (shown_is (folded c)) ∙ ap shown (sym (flat_is c) ∙ e ∙ flat_is d)
      ∙ shown_is (folded d),
)

-- All are safe but d and D.
pub toy_safe : (c : ℕ) → (folded c ≢ 0x44) ↔ IsSafe toy_meaning c
toy_safe c = (
  λ other head is e. other ((toy_same c head).1 e ∙ ap folded (head_is_d head is)),
  λ safe d. safe 0x64 d_heads ((toy_same c 0x64).0 d),
)
