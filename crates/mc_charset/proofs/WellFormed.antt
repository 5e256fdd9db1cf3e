-- Which texts are well formed: sets of one byte, and UTF-8 as std states it.
use Rattle.std.proofs.Common.{◌≡◌, ℕ, ◌+◌, ◌-◌, ◌/◌, ◌%◌, ◌<◌, ◌≤◌, ◌⊎◌, ◌↔◌, Bool, true, false, cond, ltb, leb, ◌&&◌, List, [], ◌∷◌, ◌++◌, Option, Some, None, length, get_or, refl, sym, ap, ◌∙◌, subst, arith, inl, inr, zero, suc}
use Rattle.std.specs.Option.{option_or}
use Rattle.std.specs.Str.{IsUtf8, IsAscii, IsNotAscii}
use Rattle.std.specs.Bool.{MatchBool}
use Rattle.std.specs.Prelude.{EachIndex, slice_index}
use Rattle.std.proofs.lemmas.Bool.{cases_lt, false≢true}
use Rattle.std.proofs.lemmas.Bool.Decides.{nat_tests}
use Rattle.std.proofs.lemmas.Option.{same_Some}
use Rattle.std.proofs.Math.Nat.{mod-lt, div-lt_iff_lt-mul}
use lib.Utf8.{scalar, scalars, encode, encodes}
use Rattle.mc_charset.specs.declared.charset.Charset.{Charset}
use Rattle.mc_charset.specs.declared.charset.Charset.TheVariants.{Latin1, Ascii, Utf8mb3, Utf8mb4, Ucs2, Utf16, Binary}
use Rattle.mc_charset.specs.declared.latin1.TheConstants.{CODES_80_TO_9F}
use Rattle.mc_charset.specs.Rows.{Range, Row, count, sequence, has_code, spelling_in, first_in}
use Rattle.mc_charset.specs.Tables.{rows, utf8_short_rows, utf8_long_rows, two_byte_rows, surrogate_pair_rows}
use Rattle.mc_charset.specs.Chars.{spell, Spells, IsWellFormed}
use Rattle.mc_charset.proofs.Rows.{are_filled, count_positive, and_parts, guard_cases, has_code_parts}
use Rattle.mc_charset.proofs.ByteRows.{latin1_middle}
use Rattle.mc_charset.proofs.Chars.{empty_spelled, found_well_formed, Spells_nil, Spells_split, Spells_cons}

-- Bytes below a bound

abbrev pub AreBelow : ℕ → List ℕ → Type 0
AreBelow bound [] = Unit
AreBelow bound (b ∷ bytes) = (b < bound) × AreBelow bound bytes

pub AreBelow-each : (bound : ℕ) (bytes : List ℕ) → ((i : ℕ) → i < length bytes → get_or bytes i 0 < bound) → AreBelow bound bytes
AreBelow-each bound [] h = tt
AreBelow-each bound (b ∷ bytes) h = (h 0 (omega arith), AreBelow-each bound bytes (λ i k. h (suc i) (omega arith)))

pub AreBelow_at : (bound : ℕ) (bytes : List ℕ) (i : ℕ) → AreBelow bound bytes → 0 < bound → get_or bytes i 0 < bound
AreBelow_at bound [] i h k = k
AreBelow_at bound (b ∷ bytes) zero h k = h.0
AreBelow_at bound (b ∷ bytes) (suc i) h k = AreBelow_at bound bytes i h.1 k

AreBelow-append : (bound : ℕ) (front rest : List ℕ) → AreBelow bound front → AreBelow bound rest → AreBelow bound (front ++ rest)
AreBelow-append bound [] rest h k = k
AreBelow-append bound (b ∷ front) rest h k = (h.0, AreBelow-append bound front rest h.1 k)

AreBelow_rest : (bound : ℕ) (front rest : List ℕ) → AreBelow bound (front ++ rest) → AreBelow bound rest
AreBelow_rest bound [] rest h = h
AreBelow_rest bound (b ∷ front) rest h = AreBelow_rest bound front rest h.1

-- Each byte of the rows is below the bound.
abbrev ranges_below : ℕ → List Range → Bool
ranges_below bound [] = true
ranges_below bound (r ∷ rs) = ltb r.greatest bound && ranges_below bound rs

abbrev pub rows_bytes_below : ℕ → List Row → Bool
rows_bytes_below bound [] = true
rows_bytes_below bound (row ∷ rows) = (are_filled row.bytes && ranges_below bound row.bytes) && rows_bytes_below bound rows

ltb_lt : (a b : ℕ) → ltb a b ≡ true → a < b
ltb_lt a b h = grind (arith, nat_tests)

sequence_below : (bound : ℕ) (rs : List Range) (n : ℕ) → are_filled rs ≡ true → ranges_below bound rs ≡ true → n < count rs → AreBelow bound (sequence rs n)
sequence_below bound [] n h k l = tt
sequence_below bound (r ∷ rs) n h k l =
    let p = and_parts (leb r.least r.greatest) (are_filled rs) h in
    let q = and_parts (ltb r.greatest bound) (ranges_below bound rs) k in
    let c = count rs in
    let positive : 0 < c = count_positive rs p.1 in
    let digit : n / c < r.greatest + 1 - r.least = (div-lt_iff_lt-mul positive).1 (omega (arith, l)) in
    let top : r.greatest < bound = ltb_lt r.greatest bound q.0 in
    (omega (arith, digit), sequence_below bound rs (n % c) p.1 q.1 (mod-lt n positive))

spelling_below : (bound : ℕ) (rows : List Row) (code : ℕ) (front : List ℕ) → rows_bytes_below bound rows ≡ true → spelling_in rows code ≡ Some front → AreBelow bound front
spelling_below bound [] code front h k = absurd (cc)
spelling_below bound (row ∷ rows) code front h k =
    let p = and_parts (are_filled row.bytes && ranges_below bound row.bytes) (rows_bytes_below bound rows) h in
    let q = and_parts (are_filled row.bytes) (ranges_below bound row.bytes) p.0 in
    elim (guard_cases (has_code row code) (sequence row.bytes (code - row.first)) front (spelling_in rows code) k) [
      | inl e ↦
          let w = has_code_parts row code e.0 in
          subst (AreBelow bound) e.1 (sequence_below bound row.bytes (code - row.first) q.0 q.1 (omega (arith, w.0, w.1)))
      | inr e ↦ spelling_below bound rows code front p.1 e.1
    ]

spell_below : (bound : ℕ) (set : Charset) (code : ℕ) (front : List ℕ) → rows_bytes_below bound (rows set) ≡ true → spell set code ≡ Some front → AreBelow bound front
unfolding spell
spell_below bound set code front h k = spelling_below bound (rows set) code front h k

pub Spells_below : (bound : ℕ) (set : Charset) (codes text : List ℕ) → rows_bytes_below bound (rows set) ≡ true → Spells set codes text → AreBelow bound text
Spells_below bound set [] text h k = subst (AreBelow bound) (sym (Spells_nil set text k)) tt
Spells_below bound set (code ∷ codes) text h k =
    let s = Spells_split set code codes text k in
    subst (AreBelow bound) (sym s.joins)
    (AreBelow-append bound s.front s.rest (spell_below bound set code s.front h s.spelled) (Spells_below bound set codes s.rest h s.rest_spelled))

-- Sets of one byte

abbrev HasBytes : Charset → ℕ → Type 0
HasBytes set bound = (b : ℕ) (rest : List ℕ) → b < bound → (code : ℕ) × (first_in (rows set) (b ∷ rest) ≡ Some (code, 1))

pub bytes_well_formed : (set : Charset) (bound : ℕ) (text : List ℕ) → HasBytes set bound → AreBelow bound text → IsWellFormed set text
bytes_well_formed set bound [] h k = ([], empty_spelled set)
bytes_well_formed set bound (b ∷ bytes) h k =
    let f = h b bytes k.0 in
    found_well_formed set (b ∷ bytes) f.0 1 f.1 (bytes_well_formed set bound bytes h k.1)

binary_byte : (b : ℕ) (rest : List ℕ) → b < 256 → first_in (rows Binary) (b ∷ rest) ≡ Some (b, 1)
binary_byte b rest h = grind (arith, nat_tests)

ascii_byte : (b : ℕ) (rest : List ℕ) → b < 128 → first_in (rows Ascii) (b ∷ rest) ≡ Some (b, 1)
ascii_byte b rest h = grind (arith, nat_tests)

latin1_low : (b : ℕ) (rest : List ℕ) → b < 128 → first_in (rows Latin1) (b ∷ rest) ≡ Some (b, 1)
latin1_low b rest h = grind (arith, nat_tests)

latin1_high : (b : ℕ) (rest : List ℕ) → 0xA0 ≤ b → b < 256 → first_in (rows Latin1) (b ∷ rest) ≡ Some (b, 1)
latin1_high b rest h k = grind (arith, nat_tests)

pub binary_bytes : HasBytes Binary 256
binary_bytes b rest h = (b, binary_byte b rest h)

pub ascii_bytes : HasBytes Ascii 128
ascii_bytes b rest h = (b, ascii_byte b rest h)

pub latin1_bytes : HasBytes Latin1 256
latin1_bytes b rest h =
    elim (cases_lt b 0x80) [
      | inl k ↦ (b, latin1_low b rest k)
      | inr k ↦ elim (cases_lt b 0xA0) [
        | inl l ↦ (get_or CODES_80_TO_9F (b - 0x80) 0, latin1_middle CODES_80_TO_9F b rest refl refl k (omega arith))
        | inr l ↦ (b, latin1_high b rest l h)
      ]
    ]

-- UTF-8

some_none : (x : List ℕ) → ◌≡◌ {A = Option (List ℕ)} (Some x) None → ⊥
some_none x h = cc

spell_scalar : (c : ℕ) → scalar c ≡ true → spelling_in (rows Utf8mb4) c ≡ Some (encode c)
unfolding encode
spell_scalar c h = grind (arith, nat_tests)

spell_other : (c : ℕ) → scalar c ≡ false → spelling_in (rows Utf8mb4) c ≡ None
spell_other c h = grind (arith, nat_tests)

scalar_or : (c : ℕ) (front : List ℕ) (b : Bool) → scalar c ≡ b → spelling_in (rows Utf8mb4) c ≡ Some front → scalar c ≡ true
scalar_or c front true e h = e
scalar_or c front false e h = let n = spell_other c e in absurd (some_none front (sym h ∙ n))

scalar_of : (c : ℕ) (front : List ℕ) → spelling_in (rows Utf8mb4) c ≡ Some front → scalar c ≡ true
scalar_of c front h = scalar_or c front (scalar c) refl h

pub utf8_spelled : (codes : List ℕ) → scalars codes ≡ true → Spells Utf8mb4 codes (encodes codes)
unfolding spell
utf8_spelled [] h = empty_spelled Utf8mb4
utf8_spelled (c ∷ codes) h =
    let p = and_parts (scalar c) (scalars codes) h in
    Spells_cons Utf8mb4 c codes (encode c) (encodes codes) (spell_scalar c p.0) (utf8_spelled codes p.1)

-- The characters that spell a text in utf8mb4 are those that std encodes as it.
record IsEncoded (codes text : List ℕ) : Type 0 where
  pub scalar_codes : scalars codes ≡ true
  pub encoded : encodes codes ≡ text

utf8_encoded : (codes text : List ℕ) → Spells Utf8mb4 codes text → IsEncoded codes text
unfolding spell
utf8_encoded [] text h = record { scalar_codes = refl; encoded = sym (Spells_nil Utf8mb4 text h) }
utf8_encoded (c ∷ codes) text h =
    let s = Spells_split Utf8mb4 c codes text h in
    let i = utf8_encoded codes s.rest s.rest_spelled in
    let t = scalar_of c s.front s.spelled in
    let f : encode c ≡ s.front = same_Some (encode c) s.front (sym (spell_scalar c t) ∙ s.spelled) in
    record {
      scalar_codes = ap (λ b. b && scalars codes) t ∙ i.scalar_codes;
      encoded = ap (λ x. x ++ encodes codes) f ∙ ap (λ x. s.front ++ x) i.encoded ∙ sym s.joins;
    }

pub utf8mb4_from : (text : List ℕ) → IsUtf8 text → IsWellFormed Utf8mb4 text
utf8mb4_from text u = (u.0, subst (Spells Utf8mb4 u.0) u.1.1 (utf8_spelled u.0 u.1.0))

pub utf8mb4_to : (text : List ℕ) → IsWellFormed Utf8mb4 text → IsUtf8 text
utf8mb4_to text w = let e = utf8_encoded w.0 text w.1 in (w.0, (e.scalar_codes, e.encoded))

-- utf8mb3 is utf8mb4 without the rows whose first byte is F0 or more.

guarded : (t : Bool) (x : List ℕ) (o u v : Option (List ℕ)) → o ≡ option_or u v → cond t (Some x) o ≡ option_or (cond t (Some x) u) v
guarded true x o u v h = refl
guarded false x o u v h = h

either : (o u : Option (List ℕ)) (x : List ℕ) → option_or o u ≡ Some x → (o ≡ Some x) ⊎ (u ≡ Some x)
either (Some y) u x h = inl h
either None u x h = inr h

spelling_in-append : (some more : List Row) (code : ℕ) → spelling_in (some ++ more) code ≡ option_or (spelling_in some code) (spelling_in more code)
spelling_in-append [] more code = refl
spelling_in-append (row ∷ some) more code = guarded (has_code row code) (sequence row.bytes (code - row.first)) (spelling_in (some ++ more) code) (spelling_in some code) (spelling_in more code) (spelling_in-append some more code)

-- Rows that begin with others spell as those.
spelling_longer : (some more : List Row) (code : ℕ) (front : List ℕ) → spelling_in some code ≡ Some front → spelling_in (some ++ more) code ≡ Some front
spelling_longer some more code front h = spelling_in-append some more code ∙ ap (λ o. option_or o (spelling_in more code)) h

spell_longer : (code : ℕ) (front : List ℕ) → spell Utf8mb3 code ≡ Some front → spell Utf8mb4 code ≡ Some front
unfolding spell
spell_longer code front h = spelling_longer utf8_short_rows utf8_long_rows code front h

spell_wider : (code : ℕ) (front : List ℕ) → spell Ucs2 code ≡ Some front → spell Utf16 code ≡ Some front
unfolding spell
spell_wider code front h = spelling_longer two_byte_rows surrogate_pair_rows code front h

-- The first byte of each row is at or above the bound.
abbrev begins_above : ℕ → List Range → Bool
begins_above bound [] = false
begins_above bound (r ∷ rs) = leb bound r.least

abbrev rows_begin_above : ℕ → List Row → Bool
rows_begin_above bound [] = true
rows_begin_above bound (row ∷ rows) = begins_above bound row.bytes && rows_begin_above bound rows

leb_le : (a b : ℕ) → leb a b ≡ true → a ≤ b
leb_le a b h = grind (arith, nat_tests)

sequence_above : (bound : ℕ) (rs : List Range) (n : ℕ) → begins_above bound rs ≡ true → AreBelow bound (sequence rs n) → ⊥
sequence_above bound [] n h k = absurd (cc)
sequence_above bound (r ∷ rs) n h k = let l = leb_le bound r.least h in let m : r.least + n / count rs < bound = k.0 in absurd (omega arith)

spelling_above : (bound : ℕ) (rows : List Row) (code : ℕ) (front : List ℕ) → rows_begin_above bound rows ≡ true → spelling_in rows code ≡ Some front → AreBelow bound front → ⊥
spelling_above bound [] code front h k l = absurd (cc)
spelling_above bound (row ∷ rows) code front h k l =
    let p = and_parts (begins_above bound row.bytes) (rows_begin_above bound rows) h in
    elim (guard_cases (has_code row code) (sequence row.bytes (code - row.first)) front (spelling_in rows code) k) [
      | inl e ↦ sequence_above bound row.bytes (code - row.first) p.0 (subst (AreBelow bound) (sym e.1) l)
      | inr e ↦ spelling_above bound rows code front p.1 e.1 l
    ]

spell_shorter : (code : ℕ) (front : List ℕ) → spell Utf8mb4 code ≡ Some front → AreBelow 0xF0 front → spell Utf8mb3 code ≡ Some front
unfolding spell
spell_shorter code front h k =
    elim (either (spelling_in utf8_short_rows code) (spelling_in utf8_long_rows code) front (sym (spelling_in-append utf8_short_rows utf8_long_rows code) ∙ h)) [
      | inl e ↦ e
      | inr e ↦ absurd (spelling_above 0xF0 utf8_long_rows code front refl e k)
    ]

-- Where a set spells each character as another set does, it spells each text so.
all_longer : (some more : Charset) → ((code : ℕ) (front : List ℕ) → spell some code ≡ Some front → spell more code ≡ Some front) → (codes text : List ℕ) → Spells some codes text → Spells more codes text
all_longer some more each [] text h = empty_spelled more ∙ ap (λ x. Some x) (sym (Spells_nil some text h))
all_longer some more each (c ∷ codes) text h =
    let s = Spells_split some c codes text h in
    Spells_cons more c codes s.front s.rest (each c s.front s.spelled) (all_longer some more each codes s.rest s.rest_spelled) ∙ ap (λ x. Some x) (sym s.joins)

pub longer : (codes text : List ℕ) → Spells Utf8mb3 codes text → Spells Utf8mb4 codes text
longer = all_longer Utf8mb3 Utf8mb4 spell_longer

pub wider : (codes text : List ℕ) → Spells Ucs2 codes text → Spells Utf16 codes text
wider = all_longer Ucs2 Utf16 spell_wider

AreBelow_front : (bound : ℕ) (front rest : List ℕ) → AreBelow bound (front ++ rest) → AreBelow bound front
AreBelow_front bound [] rest h = tt
AreBelow_front bound (b ∷ front) rest h = (h.0, AreBelow_front bound front rest h.1)

shorter : (codes text : List ℕ) → AreBelow 0xF0 text → Spells Utf8mb4 codes text → Spells Utf8mb3 codes text
shorter [] text k h = empty_spelled Utf8mb3 ∙ ap (λ x. Some x) (sym (Spells_nil Utf8mb4 text h))
shorter (c ∷ codes) text k h =
    let s = Spells_split Utf8mb4 c codes text h in
    let b : AreBelow 0xF0 (s.front ++ s.rest) = subst (AreBelow 0xF0) s.joins k in
    Spells_cons Utf8mb3 c codes s.front s.rest (spell_shorter c s.front s.spelled (AreBelow_front 0xF0 s.front s.rest b)) (shorter codes s.rest (AreBelow_rest 0xF0 s.front s.rest b) s.rest_spelled) ∙ ap (λ x. Some x) (sym s.joins)

pub utf8mb3_from : (text : List ℕ) → IsUtf8 text → ((i : ℕ) → i < length text → get_or text i 0 < 0xF0) → IsWellFormed Utf8mb3 text
utf8mb3_from text u h = let w = utf8mb4_from text u in (w.0, shorter w.0 text (AreBelow-each 0xF0 text h) w.1)

pub utf8mb3_to : (text : List ℕ) → IsWellFormed Utf8mb3 text → IsUtf8 text
utf8mb3_to text w = utf8mb4_to text (w.0, longer w.0 text w.1)

pub utf8mb3_below : (text : List ℕ) (i : ℕ) → IsWellFormed Utf8mb3 text → get_or text i 0 < 0xF0
utf8mb3_below text i w = AreBelow_at 0xF0 text i (Spells_below 0xF0 Utf8mb3 w.0 text refl w.1) (omega arith)

-- What the tests tell

-- The answer says whether the text is well formed.
abbrev pub Tells : Bool → Charset → List ℕ → Type 0
Tells answer set text = (answer ≡ true → IsWellFormed set text) × (IsWellFormed set text → answer ≡ true)

pub every_text : (set : Charset) (text : List ℕ) → (set ≡ Latin1) ⊎ (set ≡ Binary) → ((i : ℕ) → get_or text i 0 < 256) → Tells true set text
every_text set text (inl e) h = ((λ _. subst (λ (s : Charset). IsWellFormed s text) (sym e) (bytes_well_formed Latin1 256 text latin1_bytes (AreBelow-each 256 text (λ i _. h i)))), (λ _. refl))
every_text set text (inr e) h = ((λ _. subst (λ (s : Charset). IsWellFormed s text) (sym e) (bytes_well_formed Binary 256 text binary_bytes (AreBelow-each 256 text (λ i _. h i)))), (λ _. refl))

pub ascii_tells : (answer : Bool) (text : List ℕ) → MatchBool answer (IsAscii text) (IsNotAscii text) → Tells answer Ascii text
ascii_tells true text h = ((λ _. bytes_well_formed Ascii 128 text ascii_bytes (AreBelow-each 128 text (λ i _. h i))), (λ _. refl))
ascii_tells false text h = (
  (λ e. absurd (false≢true e)),
  (λ w. let below = AreBelow_at 128 text h.0 (Spells_below 128 Ascii w.0 text refl w.1) (omega arith) in let above = h.1 in absurd (omega arith)),
)

pub utf8mb4_tells : (answer : Bool) (text : List ℕ) → (answer ≡ true) ↔ IsUtf8 text → Tells answer Utf8mb4 text
utf8mb4_tells answer text h = ((λ e. utf8mb4_from text (h.0 e)), (λ w. h.1 (utf8mb4_to text w)))

pub utf8mb3_tells : (answer : Bool) (text : List ℕ) → IsUtf8 text → (answer ≡ true) ↔ EachIndex text (λ i. slice_index text i < 0xF0) → Tells answer Utf8mb3 text
utf8mb3_tells answer text u h = ((λ e. utf8mb3_from text u (h.0 e)), (λ w. h.1 (λ i _. utf8mb3_below text i w)))

pub no_utf8_tells : (answer : Bool) (text : List ℕ) → answer ≡ false → (answer ≡ true) ↔ IsUtf8 text → Tells answer Utf8mb3 text
no_utf8_tells answer text e h = ((λ t. absurd (false≢true (sym e ∙ t))), (λ w. h.1 (utf8mb3_to text w)))

pub Tells_set : (answer : Bool) (set other : Charset) (text : List ℕ) → set ≡ other → Tells answer other text → Tells answer set text
Tells_set answer set other text e h = subst (λ (s : Charset). Tells answer s text) (sym e) h
