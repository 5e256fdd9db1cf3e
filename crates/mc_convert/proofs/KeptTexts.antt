-- Sets between which each text keeps its bytes, and a text for each set that no other ones keep.
use Rattle.std.proofs.Common.{◌≡◌, ◌↔◌, ℕ, ◌<◌, Bool, true, false, cond, IsTrue, List, [], ◌∷◌, Some, map, refl, sym, ap, ◌∙◌, subst}
use Rattle.std.specs.Bool.{MatchBool, OnTrue}
use Rattle.std.specs.Option.{is_some}
use Rattle.std.specs.Str.{bytes_eq}
use Rattle.std.proofs.lemmas.Bool.{false≢true}
use Rattle.mc_charset.specs.declared.charset.Charset.{Charset}
use Rattle.mc_charset.specs.declared.charset.Charset.TheVariants.{Latin1 as SetLatin1, Ascii as SetAscii, Utf8mb3, Utf8mb4, Ucs2, Utf16, Utf32, Binary}
use Rattle.mc_charset.specs.Tables.{rows}
use Rattle.mc_charset.specs.Chars.{spell, spell_all, chars, chars_behind, Spells, IsWellFormed}
use Rattle.mc_convert.specs.Conversion.{is_binary, AllFit, IsConverted, IsLossless, KeepsBytes, HasSpellings, converted_text}
use Rattle.mc_convert.specs.Kept.{IsKept, KeepsEachText, has_spellings_of}
use Rattle.mc_convert.specs.Plain.{IsPlain}
use Rattle.mc_convert.proofs.Classes.{below_end}
use Rattle.mc_convert.proofs.Conversions.{Spells_first, both_plain, converted_each, joined_parts, one_wider, wider_keeps}
use Rattle.mc_convert.proofs.Lossless.{Encodes, otherwise, unless}
use Rattle.mc_convert.proofs.PlainTexts.{SpellsLow, latin1_plain, ascii_plain, utf8mb3_plain, utf8mb4_plain}
use Rattle.mc_convert.proofs.Texts.{IsConverted-is}

-- Spellings of ascii in the sets of one byte below 80

ascii_code : (code : ℕ) (front : List ℕ) → spell SetAscii code ≡ Some front → code < 0x80
unfolding spell
ascii_code code front e = below_end 0x80 (rows SetAscii) code refl (ap is_some e)

low_spelled : (to : Charset) (code : ℕ) (front : List ℕ) → SpellsLow to → spell SetAscii code ≡ Some front
    → spell to code ≡ Some front
low_spelled to code front h e =
    let low = ascii_code code front e in
    h code low ∙ sym (ascii_plain code low) ∙ e

ascii_spelled : (to : Charset) → SpellsLow to → (codes text : List ℕ) → Spells SetAscii codes text → Spells to codes text
unfolding spell_all
ascii_spelled to h [] text s = s
ascii_spelled to h (code ∷ codes) text s =
    let p = joined_parts (spell SetAscii code) (spell_all SetAscii codes) text s in
    let q = ascii_spelled to h codes p.1 p.3 in
    let own = low_spelled to code p.0 h p.2 in
    Spells_first to code codes p.0 p.1 own q ∙ sym (Spells_first SetAscii code codes p.0 p.1 p.2 p.3) ∙ s

low_wider : (to : Charset) → SpellsLow to → is_binary to ≡ false → HasSpellings to SetAscii
low_wider to h n = record { spelled = ascii_spelled to h; alike = sym n }

-- What `wider_law` says.
abbrev pub Widens : Charset → Charset → Type 0
Widens from to = (codes text : List ℕ) → Spells from codes text → Spells to codes text

-- The table tells which sets have which spellings.
wider_of : Widens Utf8mb3 Utf8mb4 → Widens Ucs2 Utf16 → (to from : Charset) → is_binary to ≡ false
    → has_spellings_of to from ≡ true → HasSpellings to from
wider_of u w SetLatin1 SetLatin1 n h = one_wider SetLatin1 SetLatin1 refl
wider_of u w SetLatin1 SetAscii n h = low_wider SetLatin1 latin1_plain refl
wider_of u w SetLatin1 Utf8mb3 n h = absurd (false≢true h)
wider_of u w SetLatin1 Utf8mb4 n h = absurd (false≢true h)
wider_of u w SetLatin1 Ucs2 n h = absurd (false≢true h)
wider_of u w SetLatin1 Utf16 n h = absurd (false≢true h)
wider_of u w SetLatin1 Utf32 n h = absurd (false≢true h)
wider_of u w SetLatin1 Binary n h = absurd (false≢true h)
wider_of u w SetAscii SetLatin1 n h = absurd (false≢true h)
wider_of u w SetAscii SetAscii n h = one_wider SetAscii SetAscii refl
wider_of u w SetAscii Utf8mb3 n h = absurd (false≢true h)
wider_of u w SetAscii Utf8mb4 n h = absurd (false≢true h)
wider_of u w SetAscii Ucs2 n h = absurd (false≢true h)
wider_of u w SetAscii Utf16 n h = absurd (false≢true h)
wider_of u w SetAscii Utf32 n h = absurd (false≢true h)
wider_of u w SetAscii Binary n h = absurd (false≢true h)
wider_of u w Utf8mb3 SetLatin1 n h = absurd (false≢true h)
wider_of u w Utf8mb3 SetAscii n h = low_wider Utf8mb3 utf8mb3_plain refl
wider_of u w Utf8mb3 Utf8mb3 n h = one_wider Utf8mb3 Utf8mb3 refl
wider_of u w Utf8mb3 Utf8mb4 n h = absurd (false≢true h)
wider_of u w Utf8mb3 Ucs2 n h = absurd (false≢true h)
wider_of u w Utf8mb3 Utf16 n h = absurd (false≢true h)
wider_of u w Utf8mb3 Utf32 n h = absurd (false≢true h)
wider_of u w Utf8mb3 Binary n h = absurd (false≢true h)
wider_of u w Utf8mb4 SetLatin1 n h = absurd (false≢true h)
wider_of u w Utf8mb4 SetAscii n h = low_wider Utf8mb4 utf8mb4_plain refl
wider_of u w Utf8mb4 Utf8mb3 n h = record { spelled = u; alike = refl }
wider_of u w Utf8mb4 Utf8mb4 n h = one_wider Utf8mb4 Utf8mb4 refl
wider_of u w Utf8mb4 Ucs2 n h = absurd (false≢true h)
wider_of u w Utf8mb4 Utf16 n h = absurd (false≢true h)
wider_of u w Utf8mb4 Utf32 n h = absurd (false≢true h)
wider_of u w Utf8mb4 Binary n h = absurd (false≢true h)
wider_of u w Ucs2 SetLatin1 n h = absurd (false≢true h)
wider_of u w Ucs2 SetAscii n h = absurd (false≢true h)
wider_of u w Ucs2 Utf8mb3 n h = absurd (false≢true h)
wider_of u w Ucs2 Utf8mb4 n h = absurd (false≢true h)
wider_of u w Ucs2 Ucs2 n h = one_wider Ucs2 Ucs2 refl
wider_of u w Ucs2 Utf16 n h = absurd (false≢true h)
wider_of u w Ucs2 Utf32 n h = absurd (false≢true h)
wider_of u w Ucs2 Binary n h = absurd (false≢true h)
wider_of u w Utf16 SetLatin1 n h = absurd (false≢true h)
wider_of u w Utf16 SetAscii n h = absurd (false≢true h)
wider_of u w Utf16 Utf8mb3 n h = absurd (false≢true h)
wider_of u w Utf16 Utf8mb4 n h = absurd (false≢true h)
wider_of u w Utf16 Ucs2 n h = record { spelled = w; alike = refl }
wider_of u w Utf16 Utf16 n h = one_wider Utf16 Utf16 refl
wider_of u w Utf16 Utf32 n h = absurd (false≢true h)
wider_of u w Utf16 Binary n h = absurd (false≢true h)
wider_of u w Utf32 SetLatin1 n h = absurd (false≢true h)
wider_of u w Utf32 SetAscii n h = absurd (false≢true h)
wider_of u w Utf32 Utf8mb3 n h = absurd (false≢true h)
wider_of u w Utf32 Utf8mb4 n h = absurd (false≢true h)
wider_of u w Utf32 Ucs2 n h = absurd (false≢true h)
wider_of u w Utf32 Utf16 n h = absurd (false≢true h)
wider_of u w Utf32 Utf32 n h = one_wider Utf32 Utf32 refl
wider_of u w Utf32 Binary n h = absurd (false≢true h)
wider_of u w Binary from n h = absurd (false≢true (sym n))

-- Texts that keep their bytes

pub binary_kept : (from to : Charset) (text : List ℕ) → is_binary to ≡ true → converted_text from to text ≡ text
unfolding converted_text
binary_kept from to text e = rw e refl

binary_lossless : (b : Bool) (A : Type 0) → b ≡ true → MatchBool b Unit A
binary_lossless true A e = tt
binary_lossless false A e = absurd (false≢true e)

IsKept_binary : (from to : Charset) (text : List ℕ) → is_binary to ≡ true → IsKept from to text
IsKept_binary from to text e = record {
  same = binary_kept from to text e;
  lossless = binary_lossless (is_binary to) (AllFit from to text) e;
}

IsKept_bytes : (from to : Charset) (text : List ℕ) → is_binary to ≡ false → KeepsBytes from to text → IsKept from to text
IsKept_bytes from to text n k = record {
  same = sym (IsConverted-is from to text text (converted_each from to text text n k.spelled));
  lossless = unless (is_binary to) (AllFit from to text) (λ b. k.all_fit);
}

kept_by : (b : Bool) (from to : Charset) (text : List ℕ) → is_binary to ≡ b
    → (is_binary to ≡ false → KeepsBytes from to text) → IsKept from to text
kept_by true from to text e k = IsKept_binary from to text e
kept_by false from to text e k = IsKept_bytes from to text e (k e)

-- Each text of a set is kept by the sets that have its spellings.
pub kept_each : Encodes → Widens Utf8mb3 Utf8mb4 → Widens Ucs2 Utf16 → (from to : Charset)
    → has_spellings_of to from ≡ true → (text : List ℕ) → IsWellFormed from text → IsKept from to text
kept_each e u w from to h text f =
    kept_by (is_binary to) from to text refl
    (λ n. wider_keeps from to text (wider_of u w to from n h) n (e from text f))

-- A text that is seen to be ASCII is kept by sets that spell ASCII alike.
pub plain_kept : (answer : Bool) (from to : Charset) (text : List ℕ) → is_binary to ≡ false
    → OnTrue answer (IsPlain from text × IsPlain to text)
    → MatchBool answer (IsKept from to text) (is_binary to ≡ false)
plain_kept true from to text n h = IsKept_bytes from to text n (both_plain from to text h.0 h.1)
plain_kept false from to text n h = n

not_binary_by : (b : Bool) (from to : Charset) → is_binary to ≡ b → (KeepsEachText from to → ⊥) → is_binary to ≡ false
not_binary_by true from to e h = absurd (h (λ text f. binary_kept from to text e))
not_binary_by false from to e h = e

-- A set that does not keep each text is not binary.
pub not_binary : (answer : Bool) (from to : Charset) → answer ≡ false → IsTrue answer ↔ KeepsEachText from to
    → is_binary to ≡ false
not_binary answer from to e h =
    not_binary_by (is_binary to) from to refl (λ k. false≢true (sym e ∙ h.1 k))

-- A text for each set that only these keep

abbrev apart : Charset → List ℕ
apart SetLatin1 = 0xA0 ∷ []
apart SetAscii = 0x41 ∷ []
apart Utf8mb3 = 0xC2 ∷ 0xA0 ∷ []
apart Utf8mb4 = 0xF0 ∷ 0x90 ∷ 0x80 ∷ 0x80 ∷ []
apart Ucs2 = 0 ∷ 0x41 ∷ []
apart Utf16 = 0xD8 ∷ 0 ∷ 0xDC ∷ 0 ∷ []
apart Utf32 = 0 ∷ 0 ∷ 0 ∷ 0x41 ∷ []
apart Binary = 0x80 ∷ []

abbrev apart_codes : Charset → List ℕ
apart_codes SetLatin1 = 0xA0 ∷ []
apart_codes SetAscii = 0x41 ∷ []
apart_codes Utf8mb3 = 0xA0 ∷ []
apart_codes Utf8mb4 = 0x10000 ∷ []
apart_codes Ucs2 = 0x41 ∷ []
apart_codes Utf16 = 0x10000 ∷ []
apart_codes Utf32 = 0x41 ∷ []
apart_codes Binary = 0x80 ∷ []

apart_spelled : (from : Charset) → Spells from (apart_codes from) (apart from)
unfolding spell spell_all
apart_spelled SetLatin1 = refl
apart_spelled SetAscii = refl
apart_spelled Utf8mb3 = refl
apart_spelled Utf8mb4 = refl
apart_spelled Ucs2 = refl
apart_spelled Utf16 = refl
apart_spelled Utf32 = refl
apart_spelled Binary = refl

apart_told : (to from : Charset) → bytes_eq (converted_text from to (apart from)) (apart from) ≡ has_spellings_of to from
unfolding chars chars_behind spell converted_text
apart_told SetLatin1 SetLatin1 = refl
apart_told SetLatin1 SetAscii = refl
apart_told SetLatin1 Utf8mb3 = refl
apart_told SetLatin1 Utf8mb4 = refl
apart_told SetLatin1 Ucs2 = refl
apart_told SetLatin1 Utf16 = refl
apart_told SetLatin1 Utf32 = refl
apart_told SetLatin1 Binary = refl
apart_told SetAscii SetLatin1 = refl
apart_told SetAscii SetAscii = refl
apart_told SetAscii Utf8mb3 = refl
apart_told SetAscii Utf8mb4 = refl
apart_told SetAscii Ucs2 = refl
apart_told SetAscii Utf16 = refl
apart_told SetAscii Utf32 = refl
apart_told SetAscii Binary = refl
apart_told Utf8mb3 SetLatin1 = refl
apart_told Utf8mb3 SetAscii = refl
apart_told Utf8mb3 Utf8mb3 = refl
apart_told Utf8mb3 Utf8mb4 = refl
apart_told Utf8mb3 Ucs2 = refl
apart_told Utf8mb3 Utf16 = refl
apart_told Utf8mb3 Utf32 = refl
apart_told Utf8mb3 Binary = refl
apart_told Utf8mb4 SetLatin1 = refl
apart_told Utf8mb4 SetAscii = refl
apart_told Utf8mb4 Utf8mb3 = refl
apart_told Utf8mb4 Utf8mb4 = refl
apart_told Utf8mb4 Ucs2 = refl
apart_told Utf8mb4 Utf16 = refl
apart_told Utf8mb4 Utf32 = refl
apart_told Utf8mb4 Binary = refl
apart_told Ucs2 SetLatin1 = refl
apart_told Ucs2 SetAscii = refl
apart_told Ucs2 Utf8mb3 = refl
apart_told Ucs2 Utf8mb4 = refl
apart_told Ucs2 Ucs2 = refl
apart_told Ucs2 Utf16 = refl
apart_told Ucs2 Utf32 = refl
apart_told Ucs2 Binary = refl
apart_told Utf16 SetLatin1 = refl
apart_told Utf16 SetAscii = refl
apart_told Utf16 Utf8mb3 = refl
apart_told Utf16 Utf8mb4 = refl
apart_told Utf16 Ucs2 = refl
apart_told Utf16 Utf16 = refl
apart_told Utf16 Utf32 = refl
apart_told Utf16 Binary = refl
apart_told Utf32 SetLatin1 = refl
apart_told Utf32 SetAscii = refl
apart_told Utf32 Utf8mb3 = refl
apart_told Utf32 Utf8mb4 = refl
apart_told Utf32 Ucs2 = refl
apart_told Utf32 Utf16 = refl
apart_told Utf32 Utf32 = refl
apart_told Utf32 Binary = refl
apart_told Binary SetLatin1 = refl
apart_told Binary SetAscii = refl
apart_told Binary Utf8mb3 = refl
apart_told Binary Utf8mb4 = refl
apart_told Binary Ucs2 = refl
apart_told Binary Utf16 = refl
apart_told Binary Utf32 = refl
apart_told Binary Binary = refl

apart_itself : (from : Charset) → bytes_eq (apart from) (apart from) ≡ true
apart_itself SetLatin1 = refl
apart_itself SetAscii = refl
apart_itself Utf8mb3 = refl
apart_itself Utf8mb4 = refl
apart_itself Ucs2 = refl
apart_itself Utf16 = refl
apart_itself Utf32 = refl
apart_itself Binary = refl

spellings_told : (from to : Charset) → KeepsEachText from to → has_spellings_of to from ≡ true
spellings_told from to h =
    sym (apart_told to from)
    ∙ ap (λ text. bytes_eq text (apart from)) (h (apart from) (apart_codes from, apart_spelled from))
    ∙ apart_itself from

-- The table tells exactly which sets keep each text of another one.
pub has_spellings_tells : Encodes → Widens Utf8mb3 Utf8mb4 → Widens Ucs2 Utf16 → (from to : Charset)
    → IsTrue (has_spellings_of to from) ↔ KeepsEachText from to
has_spellings_tells e u w from to = (
  (λ h text f. let k = kept_each e u w from to h text f in k.same),
  spellings_told from to,
)

pub lossless_tells : Encodes → Widens Utf8mb3 Utf8mb4 → Widens Ucs2 Utf16 → (from to : Charset) (answer : Bool)
    → answer ≡ has_spellings_of to from
    → OnTrue answer ((text : List ℕ) → IsWellFormed from text → IsLossless from to text)
lossless_tells e u w from to true h = λ text f. let k = kept_each e u w from to (sym h) text f in k.lossless
lossless_tells e u w from to false h = tt

-- What is told of the sets holds of a text.
pub told_kept : (answer : Bool) (from to : Charset) (text : List ℕ) → answer ≡ true
    → IsTrue answer ↔ KeepsEachText from to
    → OnTrue answer ((t : List ℕ) → IsWellFormed from t → IsLossless from to t)
    → IsWellFormed from text → IsKept from to text
told_kept true from to text e h l f = record { same = h.0 refl text f; lossless = l text f }
told_kept false from to text e h l f = absurd (false≢true e)
