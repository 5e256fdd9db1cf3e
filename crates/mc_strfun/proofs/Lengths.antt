-- A text has at least as many bytes as characters, since no spelling is empty.
use Rattle.std.proofs.Common.{◌≡◌, ℕ, ◌-◌, ◌<◌, ◌≤◌, Bool, true, false, cond, ltb, ◌&&◌, List, [], ◌∷◌, ◌++◌, Option, Some, None, length, refl, sym, ap, ◌∙◌, arith, suc, length-append}
use Rattle.std.specs.Prelude.{option_and_then}
use Rattle.std.proofs.lemmas.Bool.Decides.{nat_tests}
use Rattle.mc_charset.specs.declared.charset.Charset.{Charset}
use Rattle.mc_charset.specs.declared.charset.Charset.TheVariants.{Latin1, Ascii, Utf8mb3, Utf8mb4, Ucs2, Utf16, Utf32, Binary}
use Rattle.mc_charset.specs.Rows.{Range, Row, sequence, has_code, spelling_in}
use Rattle.mc_charset.specs.Tables.{rows}
use Rattle.mc_charset.specs.Chars.{spell, spell_all, Spells}

-- Each row has a byte.
abbrev are_long : List Row → Bool
are_long [] = true
are_long (row ∷ rows) = ltb 0 (length row.bytes) && are_long rows

both : (a b : Bool) → (a && b) ≡ true → (a ≡ true) × (b ≡ true)
both true b h = (refl, h)
both false b h = absurd (cc)

length-sequence : (ranges : List Range) (n : ℕ) → length (sequence ranges n) ≡ length ranges
length-sequence [] n = refl
length-sequence (r ∷ ranges) n = ap suc (length-sequence ranges _)

either_row : (t : Bool) (own front : List ℕ) (o : Option (List ℕ)) (P : Type 0)
    → (own ≡ front → P) → (o ≡ Some front → P) → cond t (Some own) o ≡ Some front → P
either_row true own front o P f g h = f (cc)
either_row false own front o P f g h = g h

spelling_long : (rows : List Row) (code : ℕ) (front : List ℕ) → are_long rows ≡ true
    → spelling_in rows code ≡ Some front → 0 < length front
spelling_long [] code front h k = absurd (cc)
spelling_long (row ∷ rows) code front h k =
    let p = both (ltb 0 (length row.bytes)) (are_long rows) h in
    let l = length-sequence row.bytes (code - row.first) in
    either_row (has_code row code) (sequence row.bytes (code - row.first)) front (spelling_in rows code) (0 < length front)
    (λ e. let n : 0 < length row.bytes = grind (arith, nat_tests) in omega (arith, n, sym l ∙ ap (λ x. length x) e))
    (λ e. spelling_long rows code front p.1 e) k

rows_long : (set : Charset) → are_long (rows set) ≡ true
rows_long Latin1 = refl
rows_long Ascii = refl
rows_long Utf8mb3 = refl
rows_long Utf8mb4 = refl
rows_long Ucs2 = refl
rows_long Utf16 = refl
rows_long Utf32 = refl
rows_long Binary = refl

pub spell_positive : (set : Charset) (code : ℕ) (front : List ℕ) → spell set code ≡ Some front → 0 < length front
unfolding spell
spell_positive set code front h = spelling_long (rows set) code front (rows_long set) h

-- The first of the characters that spell a text, and the rest of them.
pub record Split (set : Charset) (code : ℕ) (codes text : List ℕ) : Type 0 where
  pub front : List ℕ
  pub rest : List ℕ
  pub spelled : spell set code ≡ Some front
  pub rest_spelled : Spells set codes rest
  pub joins : text ≡ front ++ rest

joined : (o u : Option (List ℕ)) (text : List ℕ)
    → option_and_then (λ front. option_and_then (λ rest. Some (front ++ rest)) u) o ≡ Some text
    → (front : List ℕ) × (rest : List ℕ) × (o ≡ Some front) × (u ≡ Some rest) × (text ≡ front ++ rest)
joined (Some front) (Some rest) text h = (front, rest, refl, refl, cc)
joined (Some front) None text h = absurd (cc)
joined None u text h = absurd (cc)

pub Spells_split : (set : Charset) (code : ℕ) (codes text : List ℕ) → Spells set (code ∷ codes) text → Split set code codes text
unfolding spell_all
Spells_split set code codes text h =
    let p = joined (spell set code) (spell_all set codes) text h in
    record { front = p.0; rest = p.1; spelled = p.2; rest_spelled = p.3; joins = p.4 }

pub Spells_nil : (set : Charset) (text : List ℕ) → Spells set [] text → text ≡ []
unfolding spell_all
Spells_nil set text h = cc

pub empty_spelled : (set : Charset) → Spells set [] []
unfolding spell_all
empty_spelled set = refl

pub Spells_cons : (set : Charset) (code : ℕ) (codes front rest : List ℕ) → spell set code ≡ Some front → Spells set codes rest → Spells set (code ∷ codes) (front ++ rest)
unfolding spell_all
Spells_cons set code codes front rest h k = rw (h, k)

pub as_long : (set : Charset) (codes text : List ℕ) → Spells set codes text → length codes ≤ length text
as_long set [] text h = omega arith
as_long set (code ∷ codes) text h =
    let s = Spells_split set code codes text h in
    let first = spell_positive set code s.front s.spelled in
    let later = as_long set codes s.rest s.rest_spelled in
    omega (arith, ap (λ x. length x) s.joins, length-append s.front s.rest, first, later)
