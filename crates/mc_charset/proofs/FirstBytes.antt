-- In UTF-8 each character has one byte that begins it.
use Rattle.std.proofs.Common.{◌≡◌, ℕ, ◌+◌, ◌-◌, ◌/◌, ◌%◌, ◌<◌, ◌≤◌, ◌⊎◌, Bool, true, false, leb, ltb, cond, ◌&&◌, ◌||◌, List, [], ◌∷◌, ◌++◌, Some, length, filter, refl, sym, ap, ◌∙◌, subst, arith, inl, inr, suc}
use Rattle.std.proofs.lemmas.Bool.Decides.{nat_tests}
use Rattle.std.proofs.lemmas.List.{length-append}
use Rattle.std.proofs.Math.Nat.{mod-lt, div-lt_iff_lt-mul}
use Rattle.mc_charset.specs.declared.charset.Charset.{Charset}
use Rattle.mc_charset.specs.declared.charset.Charset.TheVariants.{Utf8mb3, Utf8mb4}
use Rattle.mc_charset.specs.CharStart.{is_not_behind}
use Rattle.mc_charset.specs.Rows.{Range, Row, count, sequence, has_code, spelling_in}
use Rattle.mc_charset.specs.Tables.{rows}
use Rattle.mc_charset.specs.Chars.{spell, chars, Spells, IsWellFormed}
use Rattle.mc_charset.proofs.Rows.{are_filled, count_positive, and_parts, guard_cases, has_code_parts}
use Rattle.mc_charset.proofs.Chars.{well_formed_spelled, Spells_nil, Spells_split}
use Rattle.mc_charset.proofs.WellFormed.{longer}

pub filter-append : (p : ℕ → Bool) (xs ys : List ℕ) → filter p (xs ++ ys) ≡ filter p xs ++ filter p ys
filter-append p [] ys = refl
filter-append p (x ∷ xs) ys = of (p x) (filter-append p xs ys)
  where
    of : (b : Bool) → filter p (xs ++ ys) ≡ filter p xs ++ filter p ys
        → cond b (x ∷ filter p (xs ++ ys)) (filter p (xs ++ ys)) ≡ cond b (x ∷ filter p xs) (filter p xs) ++ filter p ys
    of true e = ap (λ zs. x ∷ zs) e
    of false e = e

-- The bytes of these ranges begin no character.
abbrev pub all_behind : List Range → Bool
all_behind [] = true
all_behind (r ∷ rs) = (leb 0x80 r.least && ltb r.greatest 0xC0) && all_behind rs

-- The bytes of the first range begin a character, and those of the others begin none.
abbrev pub begins_once : List Range → Bool
begins_once [] = false
begins_once (r ∷ rs) = (ltb r.greatest 0x80 || leb 0xC0 r.least) && all_behind rs

abbrev pub rows_begin_once : List Row → Bool
rows_begin_once [] = true
rows_begin_once (row ∷ rows) = (are_filled row.bytes && begins_once row.bytes) && rows_begin_once rows

pub digit_below : (r : Range) (rs : List Range) (n : ℕ) → are_filled rs ≡ true → n < count (r ∷ rs) → n / count rs < r.greatest + 1 - r.least
digit_below r rs n f l =
    let positive : 0 < count rs = count_positive rs f in
    (div-lt_iff_lt-mul positive).1 (omega (arith, l))

no_begin : (byte least greatest : ℕ) → (leb 0x80 least && ltb greatest 0xC0) ≡ true → least ≤ byte → byte ≤ greatest → is_not_behind byte ≡ false
no_begin byte least greatest h k l = grind (arith, nat_tests)

pub begin : (byte least greatest : ℕ) → (ltb greatest 0x80 || leb 0xC0 least) ≡ true → least ≤ byte → byte ≤ greatest → is_not_behind byte ≡ true
begin byte least greatest h k l = grind (arith, nat_tests)

pub none_begins : (rs : List Range) (n : ℕ) → are_filled rs ≡ true → all_behind rs ≡ true → n < count rs → filter is_not_behind (sequence rs n) ≡ []
none_begins [] n f h l = refl
none_begins (r ∷ rs) n f h l =
    let p = and_parts (leb r.least r.greatest) (are_filled rs) f in
    let q = and_parts (leb 0x80 r.least && ltb r.greatest 0xC0) (all_behind rs) h in
    let positive : 0 < count rs = count_positive rs p.1 in
    let digit = digit_below r rs n p.1 l in
    let byte = r.least + n / count rs in
    let not_one : is_not_behind byte ≡ false = no_begin byte r.least r.greatest q.0 (omega arith) (omega (arith, digit)) in
    ap (λ b. cond b (byte ∷ filter is_not_behind (sequence rs (n % count rs))) (filter is_not_behind (sequence rs (n % count rs)))) not_one
    ∙ none_begins rs (n % count rs) p.1 q.1 (mod-lt n positive)

one_begins : (rs : List Range) (n : ℕ) → are_filled rs ≡ true → begins_once rs ≡ true → n < count rs → length (filter is_not_behind (sequence rs n)) ≡ 1
one_begins [] n f h l = absurd (cc)
one_begins (r ∷ rs) n f h l =
    let p = and_parts (leb r.least r.greatest) (are_filled rs) f in
    let q = and_parts (ltb r.greatest 0x80 || leb 0xC0 r.least) (all_behind rs) h in
    let positive : 0 < count rs = count_positive rs p.1 in
    let digit = digit_below r rs n p.1 l in
    let byte = r.least + n / count rs in
    let one : is_not_behind byte ≡ true = begin byte r.least r.greatest q.0 (omega arith) (omega (arith, digit)) in
    ap (λ b. length (cond b (byte ∷ filter is_not_behind (sequence rs (n % count rs))) (filter is_not_behind (sequence rs (n % count rs))))) one
    ∙ ap (λ xs. suc (length xs)) (none_begins rs (n % count rs) p.1 q.1 (mod-lt n positive))

spelling_begins : (rows : List Row) (code : ℕ) (front : List ℕ) → rows_begin_once rows ≡ true → spelling_in rows code ≡ Some front → length (filter is_not_behind front) ≡ 1
spelling_begins [] code front h k = absurd (cc)
spelling_begins (row ∷ rows) code front h k =
    let p = and_parts (are_filled row.bytes && begins_once row.bytes) (rows_begin_once rows) h in
    let q = and_parts (are_filled row.bytes) (begins_once row.bytes) p.0 in
    elim (guard_cases (has_code row code) (sequence row.bytes (code - row.first)) front (spelling_in rows code) k) [
      | inl e ↦
          let w = has_code_parts row code e.0 in
          subst (λ (xs : List ℕ). length (filter is_not_behind xs) ≡ 1) e.1 (one_begins row.bytes (code - row.first) q.0 q.1 (omega (arith, w.0, w.1)))
      | inr e ↦ spelling_begins rows code front p.1 e.1
    ]

spell_begins : (code : ℕ) (front : List ℕ) → spell Utf8mb4 code ≡ Some front → length (filter is_not_behind front) ≡ 1
unfolding spell
spell_begins code front h = spelling_begins (rows Utf8mb4) code front refl h

firsts : (codes text : List ℕ) → Spells Utf8mb4 codes text → length (filter is_not_behind text) ≡ length codes
firsts [] text h = ap (λ t. length (filter is_not_behind t)) (Spells_nil Utf8mb4 text h)
firsts (code ∷ codes) text h =
    let s = Spells_split Utf8mb4 code codes text h in
    let rest = firsts codes s.rest s.rest_spelled in
    ap (λ t. length (filter is_not_behind t)) s.joins ∙ ap length (filter-append is_not_behind s.front s.rest)
    ∙ length-append (filter is_not_behind s.front) (filter is_not_behind s.rest)
    ∙ ap (λ n. n + length (filter is_not_behind s.rest)) (spell_begins code s.front s.spelled)
    ∙ omega (arith, rest)

-- The bytes that begin a character are as many as the characters.
pub count_utf8 : (set : Charset) (text : List ℕ) → (set ≡ Utf8mb3) ⊎ (set ≡ Utf8mb4) → IsWellFormed set text
    → length (filter is_not_behind text) ≡ length (chars set text)
count_utf8 set text (inl e) w =
    let w' : IsWellFormed Utf8mb3 text = subst (λ (s : Charset). IsWellFormed s text) e w in
    firsts (chars Utf8mb3 text) text (longer (chars Utf8mb3 text) text (well_formed_spelled Utf8mb3 text w')) ∙ ap (λ s. length (chars s text)) (sym e)
count_utf8 set text (inr e) w =
    let w' : IsWellFormed Utf8mb4 text = subst (λ (s : Charset). IsWellFormed s text) e w in
    firsts (chars Utf8mb4 text) text (well_formed_spelled Utf8mb4 text w') ∙ ap (λ s. length (chars s text)) (sym e)
