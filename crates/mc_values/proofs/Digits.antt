-- ASCII texts in each set.
use Rattle.std.proofs.Common.{◌≡◌, ℕ, suc, ◌-◌, ◌*◌, ◌<◌, ◌≤◌, true, List, [], ◌∷◌, ◌++◌, Option, Some, None, length, map, refl, sym, ap, ◌∙◌, subst, arith, length-append}
use Rattle.std.specs.Prelude.{option_and_then}
use Rattle.std.specs.Str.{IsAscii}
use Rattle.std.proofs.lemmas.Bool.Decides.{nat_tests}
use Rattle.mc_charset.specs.declared.charset.Charset.{Charset}
use Rattle.mc_charset.specs.declared.charset.Charset.TheVariants.{Latin1, Ascii, Utf8mb3, Utf8mb4, Ucs2, Utf16, Utf32, Binary}
use Rattle.mc_charset.specs.Rows.{Range, Row, sequence, has_code, spelling_in}
use Rattle.mc_charset.specs.Tables.{rows}
use Rattle.mc_charset.specs.Chars.{spell, spell_all, chars, Spells}
use Rattle.mc_convert.specs.Conversion.{IsConverted, stand_in, unit_len}

-- A character below U+0080 in a set: its spelling, of at most four bytes.
record IsLow (set : Charset) (code : ℕ) : Type 0 where
  front : List ℕ
  spelled : spell set code ≡ Some front
  short : length front ≤ 4

length-sequence : (ranges : List Range) (n : ℕ) → length (sequence ranges n) ≡ length ranges
length-sequence [] n = refl
length-sequence (r ∷ ranges) n = ap suc (length-sequence ranges _)

by_first_row : (row : Row) (others : List Row) (code : ℕ) → has_code row code ≡ true
    → spelling_in (row ∷ others) code ≡ Some (sequence row.bytes (code - row.first))
by_first_row row others code h = rw h refl

abbrev HasLow : Charset → Type 0
HasLow set = (code : ℕ) → code < 0x80 → IsLow set code

by_row : (set : Charset) (row : Row) (others : List Row) → rows set ≡ row ∷ others → length row.bytes ≤ 4
    → ((code : ℕ) → code < 0x80 → has_code row code ≡ true) → HasLow set
unfolding spell
by_row set row others e l has code h = record {
  front = sequence row.bytes (code - row.first);
  spelled = rw e (by_first_row row others code (has code h));
  short = rw (length-sequence row.bytes (code - row.first)) l;
}

low : (set : Charset) → HasLow set
low Latin1 = by_row Latin1 _ _ refl (omega arith) (λ code h. grind (arith, nat_tests))
low Ascii = by_row Ascii _ _ refl (omega arith) (λ code h. grind (arith, nat_tests))
low Utf8mb3 = by_row Utf8mb3 _ _ refl (omega arith) (λ code h. grind (arith, nat_tests))
low Utf8mb4 = by_row Utf8mb4 _ _ refl (omega arith) (λ code h. grind (arith, nat_tests))
low Ucs2 = by_row Ucs2 _ _ refl (omega arith) (λ code h. grind (arith, nat_tests))
low Utf16 = by_row Utf16 _ _ refl (omega arith) (λ code h. grind (arith, nat_tests))
low Utf32 = by_row Utf32 _ _ refl (omega arith) (λ code h. grind (arith, nat_tests))
low Binary = by_row Binary _ _ refl (omega arith) (λ code h. grind (arith, nat_tests))

-- Each of them has itself in the other set.
stays : (set : Charset) (code : ℕ) → code < 0x80 → stand_in Utf8mb4 set code ≡ code
stays set code h = rw (low set code h).spelled refl

stand_ins : (set : Charset) (codes : List ℕ) → IsAscii codes → map (stand_in Utf8mb4 set) codes ≡ codes
stand_ins set [] a = refl
stand_ins set (code ∷ codes) a =
    ap (λ c. c ∷ map (stand_in Utf8mb4 set) codes) (stays set code (a 0))
    ∙ ap (λ cs. code ∷ cs) (stand_ins set codes (λ k. a (suc k)))

-- Sets of one byte below 80 spell them by their bytes.
abbrev SpellsByBytes : Charset → Type 0
SpellsByBytes set = (code : ℕ) → code < 0x80 → spell set code ≡ Some (code ∷ [])

latin1_bytes : SpellsByBytes Latin1
unfolding spell
latin1_bytes code h = grind (arith, nat_tests)

ascii_bytes : SpellsByBytes Ascii
unfolding spell
ascii_bytes code h = grind (arith, nat_tests)

utf8mb3_bytes : SpellsByBytes Utf8mb3
unfolding spell
utf8mb3_bytes code h = grind (arith, nat_tests)

utf8mb4_bytes : SpellsByBytes Utf8mb4
unfolding spell
utf8mb4_bytes code h = grind (arith, nat_tests)

binary_bytes : SpellsByBytes Binary
unfolding spell
binary_bytes code h = grind (arith, nat_tests)

by_bytes : (set : Charset) (text : List ℕ) → SpellsByBytes set → IsAscii text → Spells set text text
unfolding spell_all
by_bytes set [] h a = refl
by_bytes set (code ∷ codes) h a = rw (h code (a 0), by_bytes set codes h (λ k. a (suc k))) refl

pub ascii_spelled : (set : Charset) (text : List ℕ) → unit_len set ≡ 1 → IsAscii text → Spells set text text
ascii_spelled Latin1 text e a = by_bytes Latin1 text latin1_bytes a
ascii_spelled Ascii text e a = by_bytes Ascii text ascii_bytes a
ascii_spelled Utf8mb3 text e a = by_bytes Utf8mb3 text utf8mb3_bytes a
ascii_spelled Utf8mb4 text e a = by_bytes Utf8mb4 text utf8mb4_bytes a
ascii_spelled Ucs2 text e a = absurd (omega (arith, e))
ascii_spelled Utf16 text e a = absurd (omega (arith, e))
ascii_spelled Utf32 text e a = absurd (omega (arith, e))
ascii_spelled Binary text e a = by_bytes Binary text binary_bytes a

-- What `chars_law` says of the characters that spell a text.
abbrev Decodes : Type 0
Decodes = (set : Charset) (codes text : List ℕ) → Spells set codes text → chars set text ≡ codes

spelled_in : Decodes → (set : Charset) (digits text : List ℕ) → IsAscii digits
    → Spells set (map (stand_in Utf8mb4 set) (chars Utf8mb4 digits)) text → Spells set digits text
spelled_in d set digits text a h =
    let its : chars Utf8mb4 digits ≡ digits = d Utf8mb4 digits digits (ascii_spelled Utf8mb4 digits refl a) in
    subst (λ codes. Spells set codes text) (ap (λ codes. map (stand_in Utf8mb4 set) codes) its ∙ stand_ins set digits a) h

-- An ASCII text that is converted from UTF-8 has the same characters.
pub ascii_in : Decodes → (set : Charset) (digits text : List ℕ) → IsAscii digits
    → IsConverted Utf8mb4 set digits text → Spells set digits text
ascii_in d Latin1 digits text a h = spelled_in d Latin1 digits text a h
ascii_in d Ascii digits text a h = spelled_in d Ascii digits text a h
ascii_in d Utf8mb3 digits text a h = spelled_in d Utf8mb3 digits text a h
ascii_in d Utf8mb4 digits text a h = spelled_in d Utf8mb4 digits text a h
ascii_in d Ucs2 digits text a h = spelled_in d Ucs2 digits text a h
ascii_in d Utf16 digits text a h = spelled_in d Utf16 digits text a h
ascii_in d Utf32 digits text a h = spelled_in d Utf32 digits text a h
ascii_in d Binary digits text a h = subst (Spells Binary digits) (sym h) (ascii_spelled Binary digits refl a)

joined : (o u : Option (List ℕ)) (front text : List ℕ) → o ≡ Some front
    → option_and_then (λ front. option_and_then (λ rest. Some (front ++ rest)) u) o ≡ Some text
    → (rest : List ℕ) × (u ≡ Some rest) × (text ≡ front ++ rest)
joined (Some first) (Some rest) front text e h =
    let whole : text ≡ first ++ rest = cc in
    let same : first ≡ front = cc in
    (rest, refl, whole ∙ ap (λ x. x ++ rest) same)
joined (Some first) None front text e h = absurd cc
joined None u front text e h = absurd cc

-- Each of its characters has at most four bytes.
pub at_most_four : (set : Charset) (codes text : List ℕ) → IsAscii codes → Spells set codes text → length text ≤ 4 * length codes
unfolding spell_all
at_most_four set [] text a h = let e : text ≡ [] = cc in rw e (omega arith)
at_most_four set (code ∷ codes) text a h =
    let first = low set code (a 0) in
    let parts = joined (spell set code) (spell_all set codes) first.front text first.spelled h in
    let later : length parts.0 ≤ 4 * length codes = at_most_four set codes parts.0 (λ k. a (suc k)) parts.1 in
    rw parts.2 (omega (arith, length-append first.front parts.0, first.short, later))
