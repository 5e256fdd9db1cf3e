-- Texts that lose no character to another set.
use Rattle.std.proofs.Common.{◌≡◌, ℕ, ◌<◌, ◌≤◌, Bool, true, false, cond, List, [], ◌∷◌, length, get_or, map, refl, sym, ap, ◌∙◌, arith, zero, suc}
use Rattle.std.specs.Bool.{MatchBool}
use Rattle.std.specs.Option.{is_some}
use Rattle.std.proofs.lemmas.Bool.{false≢true}
use Rattle.std.proofs.lemmas.Bool.Decides.{nat_tests}
use Rattle.mc_charset.specs.declared.charset.Charset.{Charset}
use Rattle.mc_charset.specs.declared.charset.Charset.TheVariants.{Latin1 as SetLatin1, Ascii as SetAscii, Utf8mb3, Utf8mb4, Ucs2, Utf16, Utf32, Binary}
use Rattle.mc_charset.specs.Chars.{spell, spell_all, chars, Spells, IsWellFormed}
use Rattle.mc_convert.specs.Classes.{rank, HasIn, HasAll, IsRepertoire, cap_of}
use Rattle.mc_convert.specs.Conversion.{is_binary, fits, stand_in, AllFit, IsConverted, IsFirstLost, IsLossless}
use Rattle.mc_convert.specs.declared.repertoire.Repertoire.{Repertoire}
use Rattle.mc_convert.specs.declared.repertoire.Repertoire.TheVariants.{Ascii, Latin1, Bmp, Unicode, Bytes}
use Rattle.mc_convert.proofs.Conversions.{joined_parts}
use Rattle.mc_convert.proofs.PlainTexts.{Decodes}
use Rattle.mc_convert.proofs.CodePoints.{set_scalar, has_low, has_capped}

-- Characters of a text that the new set has

cap_below_bytes : (set : Charset) → is_binary set ≡ false → rank (cap_of set) < 4
cap_below_bytes SetLatin1 h = omega arith
cap_below_bytes SetAscii h = omega arith
cap_below_bytes Utf8mb3 h = omega arith
cap_below_bytes Utf8mb4 h = omega arith
cap_below_bytes Ucs2 h = omega arith
cap_below_bytes Utf16 h = omega arith
cap_below_bytes Utf32 h = omega arith
cap_below_bytes Binary h = absurd (false≢true (sym h))

pub byte_low : (class : Repertoire) (byte : ℕ) → rank class < 4 → HasIn Binary class byte
    → byte < 0x80
byte_low Ascii byte h k = k
byte_low Latin1 byte h k = k
byte_low Bmp byte h k = k
byte_low Unicode byte h k = k
byte_low Bytes byte h k = absurd (omega arith)

byte_fits : (to : Charset) (byte : ℕ) → byte < 0x80 → fits Binary to byte ≡ true
byte_fits to byte h = let s = has_low to byte h in grind (arith, nat_tests)

-- A character of a class up to the cap of another set than binary fits that set.
fits_capped : (from to : Charset) (class : Repertoire) (code : ℕ) → is_binary to ≡ false
    → is_some (spell from code) ≡ true → HasIn from class code → rank class ≤ rank (cap_of to)
    → fits from to code ≡ true
fits_capped SetLatin1 to class code b s h k =
    has_capped to class code b (set_scalar SetLatin1 code refl s) h k
fits_capped SetAscii to class code b s h k =
    has_capped to class code b (set_scalar SetAscii code refl s) h k
fits_capped Utf8mb3 to class code b s h k =
    has_capped to class code b (set_scalar Utf8mb3 code refl s) h k
fits_capped Utf8mb4 to class code b s h k =
    has_capped to class code b (set_scalar Utf8mb4 code refl s) h k
fits_capped Ucs2 to class code b s h k =
    has_capped to class code b (set_scalar Ucs2 code refl s) h k
fits_capped Utf16 to class code b s h k =
    has_capped to class code b (set_scalar Utf16 code refl s) h k
fits_capped Utf32 to class code b s h k =
    has_capped to class code b (set_scalar Utf32 code refl s) h k
fits_capped Binary to class code b s h k =
    let below = cap_below_bytes to b in
    byte_fits to code (byte_low class code (omega arith) h)

all_capped : (from to : Charset) (class : Repertoire) (codes text : List ℕ) → is_binary to ≡ false
    → Spells from codes text → HasAll from class codes → rank class ≤ rank (cap_of to) → (k : ℕ)
    → k < length codes → fits from to (get_or codes k 0) ≡ true
unfolding spell_all
all_capped from to class [] text b s h r k l = absurd (omega arith)
all_capped from to class (code ∷ codes) text b s h r zero l =
    let p = joined_parts (spell from code) (spell_all from codes) text s in
    fits_capped from to class code b (ap is_some p.2) h.0 r
all_capped from to class (code ∷ codes) text b s h r (suc k) l =
    let p = joined_parts (spell from code) (spell_all from codes) text s in
    all_capped from to class codes p.1 b p.3 h.1 r k (omega arith)

-- Texts that lose no character

pub unless : (b : Bool) (A : Type 0) → (b ≡ false → A) → MatchBool b Unit A
unless true A f = tt
unless false A f = f refl

-- What `chars_law` says of the characters of a well-formed text.
abbrev pub Encodes : Type 0
Encodes = (set : Charset) (text : List ℕ) → IsWellFormed set text → Spells set (chars set text) text

-- A text whose repertoire is at most the cap of a set loses no character to it.
pub lossless : Encodes → (from to : Charset) (text : List ℕ) (class : Repertoire)
    → IsWellFormed from text → IsRepertoire from text class → rank class ≤ rank (cap_of to)
    → IsLossless from to text
lossless e from to text class w i r =
    unless (is_binary to) (AllFit from to text)
    (λ b. all_capped from to class (chars from text) text b (e from text w) i.has_all r)

-- What holds of other sets than binary.
pub otherwise : (b : Bool) (A B : Type 0) → b ≡ false → MatchBool b A B → B
otherwise true A B e h = absurd (cc)
otherwise false A B e h = h

-- A text that loses no character has no first lost one.
pub none_lost : (from to : Charset) (text : List ℕ) (place : ℕ) → IsLossless from to text
    → IsFirstLost from to text place → ⊥
none_lost from to text place h f =
    let fit = otherwise (is_binary to) Unit (AllFit from to text) f.0 h place f.1.within in
    false≢true (sym f.1.unfit ∙ fit)

keeps_each : (from to : Charset) (codes : List ℕ)
    → ((k : ℕ) → k < length codes → fits from to (get_or codes k 0) ≡ true)
    → map (stand_in from to) codes ≡ codes
keeps_each from to [] h = refl
keeps_each from to (code ∷ codes) h =
    let e : stand_in from to code ≡ code = ap (λ t. cond t code 0x3F) (h 0 (omega arith)) in
    let i : map (stand_in from to) codes ≡ codes =
    keeps_each from to codes (λ k l. h (suc k) (omega arith)) in
    ap (λ c. c ∷ map (stand_in from to) codes) e ∙ ap (λ cs. code ∷ cs) i

-- The characters of a converted text are those of the text, or `?`.
pub each_char : Decodes → (from to : Charset) (text converted : List ℕ) → is_binary to ≡ false
    → IsConverted from to text converted → chars to converted ≡ map (stand_in from to) (chars from text)
each_char d from to text converted b c =
    d to (map (stand_in from to) (chars from text)) converted
    (otherwise (is_binary to) (converted ≡ text)
    (Spells to (map (stand_in from to) (chars from text)) converted) b c)

-- A text that loses no character has the same ones once converted.
pub same_chars : Decodes → (from to : Charset) (text converted : List ℕ) → is_binary to ≡ false
    → IsLossless from to text → IsConverted from to text converted
    → chars to converted ≡ chars from text
same_chars d from to text converted b h c =
    each_char d from to text converted b c
    ∙ keeps_each from to (chars from text)
    (otherwise (is_binary to) Unit (AllFit from to text) b h)
