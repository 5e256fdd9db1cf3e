-- In utf16 each character has one unit that is no high surrogate.
use Rattle.std.proofs.Common.{◌≡◌, ℕ, ◌+◌, ◌-◌, ◌/◌, ◌%◌, ◌<◌, ◌≤◌, Bool, true, false, leb, ltb, ◌&&◌, ◌||◌, List, [], ◌∷◌, ◌++◌, Some, length, filter, cond, refl, sym, ap, ◌∙◌, subst, arith, inl, inr, suc}
use Rattle.std.proofs.lemmas.Bool.Decides.{nat_tests}
use Rattle.mc_charset.specs.declared.charset.Charset.{Charset}
use Rattle.mc_charset.specs.declared.charset.Charset.TheVariants.{Utf16}
use Rattle.mc_charset.specs.CharStart.{is_not_high, unit_firsts}
use Rattle.mc_charset.specs.Rows.{Range, Row, count, sequence, has_code, spelling_in}
use Rattle.mc_charset.specs.Tables.{rows}
use Rattle.mc_charset.specs.Chars.{spell, chars, Spells, IsWellFormed}
use Rattle.mc_charset.proofs.Rows.{are_filled, and_parts, guard_cases, has_code_parts}
use Rattle.mc_charset.proofs.FirstBytes.{digit_below}
use Rattle.mc_charset.proofs.Chars.{well_formed_spelled, Spells_nil, Spells_split}

-- how many units of a text are no high surrogates
abbrev pub count_low : List ℕ → ℕ
count_low text = length (filter is_not_high (unit_firsts text))

-- The byte sequences of these ranges have one unit that is no high surrogate.
abbrev has_one_low : List Range → Bool
has_one_low (a ∷ b ∷ []) = ltb a.greatest 0xD8 || ltb 0xDB a.least
has_one_low (a ∷ b ∷ c ∷ d ∷ []) = (leb 0xD8 a.least && leb a.greatest 0xDB) && ltb 0xDB c.least
has_one_low rs = false

abbrev rows_have_one_low : List Row → Bool
rows_have_one_low [] = true
rows_have_one_low (row ∷ rows) = (are_filled row.bytes && has_one_low row.bytes) && rows_have_one_low rows

low : (byte least greatest : ℕ) → (ltb greatest 0xD8 || ltb 0xDB least) ≡ true → least ≤ byte → byte ≤ greatest → is_not_high byte ≡ true
low byte least greatest h k l = grind (arith, nat_tests)

high : (byte least greatest : ℕ) → (leb 0xD8 least && leb greatest 0xDB) ≡ true → least ≤ byte → byte ≤ greatest → is_not_high byte ≡ false
high byte least greatest h k l = grind (arith, nat_tests)

above : (byte least : ℕ) → ltb 0xDB least ≡ true → least ≤ byte → is_not_high byte ≡ true
above byte least h k = grind (arith, nat_tests)

two_units : (p q : Bool) (x y : ℕ) (firsts : List ℕ) → p ≡ false → q ≡ true
    → length (cond p (x ∷ cond q (y ∷ firsts) firsts) (cond q (y ∷ firsts) firsts)) ≡ suc (length firsts)
two_units p q x y firsts h k = rw (h, k)

one_low : (rs : List Range) (n : ℕ) (rest : List ℕ) → are_filled rs ≡ true → has_one_low rs ≡ true → n < count rs
    → count_low (sequence rs n ++ rest) ≡ suc (count_low rest)
one_low [] n rest f h l = absurd (cc)
one_low (a ∷ []) n rest f h l = absurd (cc)
one_low (a ∷ b ∷ []) n rest f h l =
    let q = and_parts (leb a.least a.greatest) (are_filled (b ∷ [])) f in
    let digit = digit_below a (b ∷ []) n q.1 l in
    let byte = a.least + n / count (b ∷ []) in
    let firsts = filter is_not_high (unit_firsts rest) in
    let e : is_not_high byte ≡ true = low byte a.least a.greatest h (omega arith) (omega (arith, digit)) in
    ap (λ t. length (cond t (byte ∷ firsts) firsts)) e
one_low (a ∷ b ∷ c ∷ []) n rest f h l = absurd (cc)
one_low (a ∷ b ∷ c ∷ d ∷ []) n rest f h l =
    let q = and_parts (leb a.least a.greatest) (are_filled (b ∷ c ∷ d ∷ [])) f in
    let p = and_parts (leb 0xD8 a.least && leb a.greatest 0xDB) (ltb 0xDB c.least) h in
    let digit = digit_below a (b ∷ c ∷ d ∷ []) n q.1 l in
    let m = n % count (b ∷ c ∷ d ∷ []) % count (c ∷ d ∷ []) in
    let first = a.least + n / count (b ∷ c ∷ d ∷ []) in
    let third = c.least + m / count (d ∷ []) in
    two_units (is_not_high first) (is_not_high third) first third (filter is_not_high (unit_firsts rest))
    (high first a.least a.greatest p.0 (omega arith) (omega (arith, digit)))
    (above third c.least p.1 (omega arith))
one_low (a ∷ b ∷ c ∷ d ∷ e ∷ rs) n rest f h l = absurd (cc)

spelling_one_low : (rows : List Row) (code : ℕ) (front rest : List ℕ) → rows_have_one_low rows ≡ true → spelling_in rows code ≡ Some front
    → count_low (front ++ rest) ≡ suc (count_low rest)
spelling_one_low [] code front rest h k = absurd (cc)
spelling_one_low (row ∷ rows) code front rest h k =
    let p = and_parts (are_filled row.bytes && has_one_low row.bytes) (rows_have_one_low rows) h in
    let q = and_parts (are_filled row.bytes) (has_one_low row.bytes) p.0 in
    elim (guard_cases (has_code row code) (sequence row.bytes (code - row.first)) front (spelling_in rows code) k) [
      | inl e ↦
          let w = has_code_parts row code e.0 in
          subst (λ (xs : List ℕ). count_low (xs ++ rest) ≡ suc (count_low rest)) e.1
          (one_low row.bytes (code - row.first) rest q.0 q.1 (omega (arith, w.0, w.1)))
      | inr e ↦ spelling_one_low rows code front rest p.1 e.1
    ]

spell_one_low : (code : ℕ) (front rest : List ℕ) → spell Utf16 code ≡ Some front → count_low (front ++ rest) ≡ suc (count_low rest)
unfolding spell
spell_one_low code front rest h = spelling_one_low (rows Utf16) code front rest refl h

units : (codes text : List ℕ) → Spells Utf16 codes text → count_low text ≡ length codes
units [] text h = ap count_low (Spells_nil Utf16 text h)
units (code ∷ codes) text h =
    let s = Spells_split Utf16 code codes text h in
    ap count_low s.joins ∙ spell_one_low code s.front s.rest s.spelled ∙ ap suc (units codes s.rest s.rest_spelled)

-- The units that are no high surrogates are as many as the characters.
pub count_utf16 : (set : Charset) (text : List ℕ) → set ≡ Utf16 → IsWellFormed set text
    → length (filter is_not_high (unit_firsts text)) ≡ length (chars set text)
count_utf16 set text e w =
    let w' : IsWellFormed Utf16 text = subst (λ (s : Charset). IsWellFormed s text) e w in
    units (chars Utf16 text) text (well_formed_spelled Utf16 text w') ∙ ap (λ s. length (chars s text)) (sym e)
