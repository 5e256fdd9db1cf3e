-- Converted texts, and texts that bytes are taken for, as functions.
use Rattle.std.proofs.Common.{◌≡◌, ◌↔◌, ℕ, ◌&&◌, Bool, true, false, cond, IsTrue, List, [], ◌∷◌, ◌++◌, Option, Some, None, map, refl, sym, ap, ◌∙◌, subst, arith}
use Rattle.std.specs.Prelude.{MatchBool, unwrap_or}
use Rattle.std.specs.List.{flat_map}
use Rattle.std.specs.Option.{is_some}
use Rattle.std.proofs.lemmas.Bool.{false≢true}
use Rattle.std.proofs.lemmas.Option.{option_and_then_some}
use Rattle.mc_charset.specs.declared.charset.Charset.{Charset}
use Rattle.mc_charset.specs.declared.charset.Charset.TheVariants.{Latin1, Ascii, Utf8mb3, Utf8mb4, Ucs2, Utf16, Utf32, Binary}
use Rattle.mc_charset.specs.Chars.{spell, spell_all, chars, is_spelled, Spells, IsWellFormed}
use Rattle.mc_convert.specs.Conversion.{is_binary, fits, stand_in, padded, spelling, converted_text, taken_for, IsConverted, IsReinterpreted}
use Rattle.mc_convert.specs.Steps.{AppendsEach}
use Rattle.mc_convert.proofs.Conversions.{Spells_first, Spells_none, converted_each}
use Rattle.mc_convert.proofs.CodePoints.{has_low}

-- A text spelled by characters is their spellings, one behind the other.
spelled_text : (to : Charset) (f : ℕ → ℕ) (codes text : List ℕ)
    → spell_all to (map f codes) ≡ Some text → text ≡ flat_map (λ code. spelling to (f code)) codes
unfolding spell_all
spelled_text to f [] text e = cc
spelled_text to f (c ∷ cs) text e =
    option_and_then_some _ (spell to (f c)) text e (λ front own rest_spelled.
    option_and_then_some _ (spell_all to (map f cs)) text rest_spelled (λ rest behind whole.
    let joined : text ≡ front ++ rest = cc in
    joined ∙ ap (λ r. front ++ r) (spelled_text to f cs rest behind)
    ∙ ap (λ x. unwrap_or x [] ++ flat_map (λ code. spelling to (f code)) cs) (sym own)))

converted_by : (b : Bool) (from to : Charset) (text converted : List ℕ)
    → MatchBool b (converted ≡ text) (Spells to (map (stand_in from to) (chars from text)) converted)
    → converted ≡ cond b text (flat_map (λ code. spelling to (stand_in from to code)) (chars from text))
converted_by true from to text converted h = h
converted_by false from to text converted h = spelled_text to (stand_in from to) (chars from text) converted h

-- A converted text is the one of the function.
pub IsConverted-is : (from to : Charset) (text converted : List ℕ) → IsConverted from to text converted
    → converted ≡ converted_text from to text
unfolding converted_text
IsConverted-is from to text converted h = converted_by (is_binary to) from to text converted h

-- The text of the function is converted

second_true : (a b : Bool) → (a && b) ≡ true → b ≡ true
second_true true b h = h
second_true false b h = absurd (false≢true h)

own_spelling : (o : Option (List ℕ)) → is_some o ≡ true → o ≡ Some (unwrap_or o [])
own_spelling (Some front) h = refl
own_spelling None h = absurd (false≢true h)

stood : (t : Bool) (from to : Charset) (code : ℕ) → fits from to code ≡ t
    → is_some (spell to (cond t code 0x3F)) ≡ true
stood true from to code e = second_true _ (is_some (spell to code)) e
stood false from to code e = has_low to 0x3F (omega arith)

-- Each set has what stands in for a character.
stand_in_spelled : (from to : Charset) (code : ℕ) → is_some (spell to (stand_in from to code)) ≡ true
stand_in_spelled from to code = stood (fits from to code) from to code refl

spelled_each : (from to : Charset) (codes : List ℕ)
    → Spells to (map (stand_in from to) codes) (flat_map (λ code. spelling to (stand_in from to code)) codes)
spelled_each from to [] = Spells_none to
spelled_each from to (code ∷ codes) =
    Spells_first to (stand_in from to code) (map (stand_in from to) codes)
    (spelling to (stand_in from to code)) (flat_map (λ c. spelling to (stand_in from to c)) codes)
    (own_spelling (spell to (stand_in from to code)) (stand_in_spelled from to code))
    (spelled_each from to codes)

converted_of : (b : Bool) (from to : Charset) (text : List ℕ) → (converted : List ℕ)
    → converted ≡ cond b text (flat_map (λ code. spelling to (stand_in from to code)) (chars from text))
    → MatchBool b (converted ≡ text) (Spells to (map (stand_in from to) (chars from text)) converted)
converted_of true from to text converted e = e
converted_of false from to text converted e =
    subst (λ (t : List ℕ). Spells to (map (stand_in from to) (chars from text)) t) (sym e)
    (spelled_each from to (chars from text))

-- The text of the function is converted, and no other one is.
pub IsConverted-tells : (from to : Charset) (text converted : List ℕ)
    → IsConverted from to text converted ↔ (converted ≡ converted_text from to text)
unfolding converted_text
IsConverted-tells from to text converted =
    (IsConverted-is from to text converted, converted_of (is_binary to) from to text converted)

pub converted_text-is : (from to : Charset) (text : List ℕ)
    → IsConverted from to text (converted_text from to text)
converted_text-is from to text = (IsConverted-tells from to text (converted_text from to text)).1 refl

-- What is written behind nothing.
pub behind_nothing : (from to : Charset) (text old new : List ℕ) → old ≡ []
    → new ≡ old ++ converted_text from to text → IsConverted from to text new
behind_nothing from to text old new e w =
    (IsConverted-tells from to text new).1 (w ∙ ap (λ x. x ++ converted_text from to text) e)

-- Each character of a text, written behind another one, in a set other than binary.
pub appended_text : (from to : Charset) (text old new : List ℕ) → is_binary to ≡ false
    → AppendsEach from to text old new → new ≡ old ++ converted_text from to text
appended_text from to text old new n a =
    a.2 ∙ ap (λ x. old ++ x) (IsConverted-is from to text a.0 (converted_each from to text a.0 n a.1))

binary_text : (to : Charset) (text : List ℕ) → IsWellFormed Binary text → is_binary to ≡ true
    → IsWellFormed to text
binary_text Binary text w e = w
binary_text Latin1 text w e = absurd (false≢true e)
binary_text Ascii text w e = absurd (false≢true e)
binary_text Utf8mb3 text w e = absurd (false≢true e)
binary_text Utf8mb4 text w e = absurd (false≢true e)
binary_text Ucs2 text w e = absurd (false≢true e)
binary_text Utf16 text w e = absurd (false≢true e)
binary_text Utf32 text w e = absurd (false≢true e)

well_formed_by : (b : Bool) (to : Charset) (codes text converted : List ℕ)
    → (b ≡ true → IsWellFormed to text) → MatchBool b (converted ≡ text) (Spells to codes converted)
    → IsWellFormed to converted
well_formed_by true to codes text converted w h = subst (IsWellFormed to) (sym h) (w refl)
well_formed_by false to codes text converted w h = (codes, h)

-- A converted text is well formed.
pub IsConverted_well_formed : (from to : Charset) (text converted : List ℕ)
    → IsWellFormed Binary text → IsConverted from to text converted → IsWellFormed to converted
IsConverted_well_formed from to text converted w h =
    well_formed_by (is_binary to) to (map (stand_in from to) (chars from text)) text converted
    (binary_text to text w) h

taken_by : (b : Bool) (text : List ℕ) → (b ≡ true → ⊥) → None ≡ cond b (Some text) None
taken_by true text h = absurd (h refl)
taken_by false text h = refl

-- What bytes were taken for is what the function says.
pub IsReinterpreted-is : (set : Charset) (bytes : List ℕ) (taken : Option (List ℕ))
    → IsTrue (is_spelled set (padded set bytes)) ↔ IsWellFormed set (padded set bytes)
    → IsReinterpreted set bytes taken → taken ≡ taken_for set bytes
unfolding taken_for
IsReinterpreted-is set bytes None tells h =
    taken_by (is_spelled set (padded set bytes)) (padded set bytes) (λ t. h (tells.0 t))
IsReinterpreted-is set bytes (Some text) tells h =
    ap (λ x. Some x) h.0 ∙ sym (ap (λ b. cond b (Some (padded set bytes)) None) (tells.1 h.1))
