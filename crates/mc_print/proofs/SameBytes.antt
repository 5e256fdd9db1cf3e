-- Texts that have the same bytes in UTF-8.
use Rattle.std.proofs.Common.{◌≡◌, ◌↔◌, ℕ, Bool, true, false, not, ltb, cond, ◌&&◌, ◌||◌, List, [], ◌∷◌, ◌++◌, ◌⊎◌, inl, inr, Option, Some, None, map, refl, sym, ap, ◌∙◌, subst}
use Rattle.std.specs.Prelude.{option_and_then}
use Rattle.std.specs.Bool.{MatchBool, OnTrue}
use Rattle.std.specs.Option.{is_some}
use Rattle.std.specs.Str.{IsAscii, IsNotAscii}
use Rattle.mc_charset.specs.declared.charset.Charset.{Charset}
use Rattle.mc_charset.specs.declared.charset.Charset.TheVariants.{Latin1, Ascii, Utf8mb3, Utf8mb4}
use Rattle.mc_charset.specs.Chars.{spell, spell_all, chars, IsWellFormed, Spells}
use Rattle.mc_convert.specs.Conversion.{converted_text, is_binary, stand_in, unit_len, IsConverted}

-- What `chars_law` says of the characters that spell a text.
abbrev Decodes : Type 0
Decodes = (set : Charset) (codes text : List ℕ) → Spells set codes text → chars set text ≡ codes

-- What `conversion_law` says of a converted text.
abbrev IsFunction : Type 0
IsFunction = (from to : Charset) (text converted : List ℕ) → IsConverted from to text converted ↔ (converted ≡ converted_text from to text)

parts : (o u : Option (List ℕ)) (text : List ℕ) → option_and_then (λ front. option_and_then (λ rest. Some (front ++ rest)) u) o ≡ Some text
    → (rest : List ℕ) × (is_some o ≡ true) × (u ≡ Some rest)
parts (Some front) (Some rest) text h = (rest, refl, refl)
parts (Some front) None text h = absurd cc
parts None u text h = absurd cc

itself : (binary : Bool) (low has : Bool) (code : ℕ) → binary ≡ false → has ≡ true → cond ((not binary || low) && has) code 0x3F ≡ code
itself binary low has code e h = rw (e, h) refl

-- Characters that UTF-8 spells stand for themselves.
stand_ins : (set : Charset) (codes text : List ℕ) → is_binary set ≡ false → Spells Utf8mb4 codes text → map (stand_in set Utf8mb4) codes ≡ codes
unfolding spell_all
stand_ins set [] text e h = refl
stand_ins set (code ∷ codes) text e h =
    let p = parts (spell Utf8mb4 code) (spell_all Utf8mb4 codes) text h in
    let first : stand_in set Utf8mb4 code ≡ code = itself (is_binary set) (ltb code 0x80) (is_some (spell Utf8mb4 code)) code e p.1 in
    ap (λ c. c ∷ map (stand_in set Utf8mb4) codes) first ∙ ap (λ cs. code ∷ cs) (stand_ins set codes p.0 e p.2)

-- A text that the same characters spell in UTF-8 stays as it is.
same_bytes : Decodes → IsFunction → (set : Charset) (codes text : List ℕ) → is_binary set ≡ false → Spells set codes text
    → Spells Utf8mb4 codes text → converted_text set Utf8mb4 text ≡ text
same_bytes d f set codes text e s u =
    let its : map (stand_in set Utf8mb4) (chars set text) ≡ codes = ap (λ cs. map (stand_in set Utf8mb4) cs) (d set codes text s) ∙ stand_ins set codes text e u in
    sym ((f set Utf8mb4 text text).0 (subst (λ cs. Spells Utf8mb4 cs text) (sym its) u))

-- utf8mb3 has the spellings of UTF-8.
pub utf8_kept : Decodes → IsFunction → ((codes text : List ℕ) → Spells Utf8mb3 codes text → Spells Utf8mb4 codes text)
    → (set : Charset) (text : List ℕ) → (set ≡ Utf8mb3) ⊎ (set ≡ Utf8mb4) → IsWellFormed set text → converted_text set Utf8mb4 text ≡ text
utf8_kept d f wider set text (inl e) w =
    subst (λ s. IsWellFormed s text → converted_text s Utf8mb4 text ≡ text) (sym e)
    (λ v. same_bytes d f Utf8mb3 v.0 text refl v.1 (wider v.0 text v.1)) w
utf8_kept d f wider set text (inr e) w =
    subst (λ s. IsWellFormed s text → converted_text s Utf8mb4 text ≡ text) (sym e)
    (λ v. same_bytes d f Utf8mb4 v.0 text refl v.1 v.1) w

-- What `ascii_law` says.
abbrev SpellsAscii : Type 0
SpellsAscii = (set : Charset) (text : List ℕ) → unit_len set ≡ 1 → IsAscii text → Spells set text text

-- An ASCII text of latin1 or ascii has the same bytes.
ascii_kept : Decodes → IsFunction → SpellsAscii → (set : Charset) (text : List ℕ) → (set ≡ Latin1) ⊎ (set ≡ Ascii)
    → IsAscii text → converted_text set Utf8mb4 text ≡ text
ascii_kept d f spelled set text (inl e) a =
    subst (λ s. converted_text s Utf8mb4 text ≡ text) (sym e)
    (same_bytes d f Latin1 text text refl (spelled Latin1 text refl a) (spelled Utf8mb4 text refl a))
ascii_kept d f spelled set text (inr e) a =
    subst (λ s. converted_text s Utf8mb4 text ≡ text) (sym e)
    (same_bytes d f Ascii text text refl (spelled Ascii text refl a) (spelled Utf8mb4 text refl a))

pub ascii_tells : Decodes → IsFunction → SpellsAscii → (answer : Bool) (set : Charset) (text : List ℕ) → (set ≡ Latin1) ⊎ (set ≡ Ascii)
    → MatchBool answer (IsAscii text) (IsNotAscii text) → OnTrue answer (converted_text set Utf8mb4 text ≡ text)
ascii_tells d f spelled true set text e h = ascii_kept d f spelled set text e h
ascii_tells d f spelled false set text e h = tt
