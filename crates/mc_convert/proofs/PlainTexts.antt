-- Texts below 80 in the sets that spell those characters as their bytes.
use Rattle.std.proofs.Common.{◌≡◌, ℕ, ◌<◌, ◌⊎◌, Bool, true, false, List, [], ◌∷◌, ◌++◌, Some, length, get_or, refl, sym, ap, ◌∙◌, subst, arith, inl, inr, suc}
use Rattle.std.specs.Bool.{MatchBool, OnTrue}
use Rattle.std.specs.List.{flat_map}
use Rattle.std.specs.Option.{option_map}
use Rattle.std.specs.Str.{IsAscii, IsNotAscii}
use Rattle.std.proofs.lemmas.Bool.Decides.{nat_tests}
use Rattle.mc_charset.specs.declared.charset.Charset.{Charset}
use Rattle.mc_charset.specs.declared.charset.Charset.TheVariants.{Latin1, Ascii, Utf8mb3, Utf8mb4, Ucs2, Utf16, Utf32, Binary}
use Rattle.mc_charset.specs.Chars.{spell, spell_all, Spells, chars}
use Rattle.mc_convert.specs.Plain.{IsPlain, SpellsAscii, after_one_zero, after_three_zeros}

abbrev pub SpellsLow : Charset → Type 0
SpellsLow set = (b : ℕ) → b < 0x80 → spell set b ≡ Some (b ∷ [])

pub latin1_plain : SpellsLow Latin1
unfolding spell
latin1_plain b h = grind (arith, nat_tests)

pub ascii_plain : SpellsLow Ascii
unfolding spell
ascii_plain b h = grind (arith, nat_tests)

pub utf8mb3_plain : SpellsLow Utf8mb3
unfolding spell
utf8mb3_plain b h = grind (arith, nat_tests)

pub utf8mb4_plain : SpellsLow Utf8mb4
unfolding spell
utf8mb4_plain b h = grind (arith, nat_tests)

binary_plain : SpellsLow Binary
unfolding spell
binary_plain b h = grind (arith, nat_tests)

spelled_low : (set : Charset) (text : List ℕ) → SpellsLow set → ((k : ℕ) → get_or text k 0 < 0x80)
    → Spells set text text
unfolding spell_all
spelled_low set [] h k = refl
spelled_low set (b ∷ bytes) h k = rw (h b (k 0), spelled_low set bytes h (λ i. k (suc i)))

-- Characters below U+0080, spelled one behind the other.

abbrev SpellsLowBy : Charset → (ℕ → List ℕ) → Type 0
SpellsLowBy set f = (b : ℕ) → b < 0x80 → spell set b ≡ Some (f b)

spelled_by : (set : Charset) (f : ℕ → List ℕ) (text : List ℕ) → SpellsLowBy set f → ((k : ℕ) → get_or text k 0 < 0x80)
    → spell_all set text ≡ Some (flat_map f text)
unfolding spell_all
spelled_by set f [] h k = refl
spelled_by set f (b ∷ bytes) h k = rw (h b (k 0), spelled_by set f bytes h (λ i. k (suc i)))

ucs2_low : SpellsLowBy Ucs2 (λ b. 0 ∷ b ∷ [])
unfolding spell
ucs2_low b h = grind (arith, nat_tests)

utf16_low : SpellsLowBy Utf16 (λ b. 0 ∷ b ∷ [])
unfolding spell
utf16_low b h = grind (arith, nat_tests)

utf32_low : SpellsLowBy Utf32 (λ b. 0 ∷ 0 ∷ 0 ∷ b ∷ [])
unfolding spell
utf32_low b h = grind (arith, nat_tests)

-- A list of eight, place by place.
eight : (xs : List ℕ) → length xs ≡ 8
    → xs ≡ get_or xs 0 0 ∷ get_or xs 1 0 ∷ get_or xs 2 0 ∷ get_or xs 3 0 ∷ get_or xs 4 0 ∷ get_or xs 5 0 ∷ get_or xs 6 0 ∷ get_or xs 7 0 ∷ []
eight [] l = absurd (cc)
eight (a ∷ []) l = absurd (cc)
eight (a ∷ b ∷ []) l = absurd (cc)
eight (a ∷ b ∷ c ∷ []) l = absurd (cc)
eight (a ∷ b ∷ c ∷ d ∷ []) l = absurd (cc)
eight (a ∷ b ∷ c ∷ d ∷ e ∷ []) l = absurd (cc)
eight (a ∷ b ∷ c ∷ d ∷ e ∷ f ∷ []) l = absurd (cc)
eight (a ∷ b ∷ c ∷ d ∷ e ∷ f ∷ g ∷ []) l = absurd (cc)
eight (a ∷ b ∷ c ∷ d ∷ e ∷ f ∷ g ∷ h ∷ []) l = refl
eight (a ∷ b ∷ c ∷ d ∷ e ∷ f ∷ g ∷ h ∷ i ∷ xs) l = absurd (omega (arith, l))

pub eight_after_one_zero : (xs : List ℕ) → length xs ≡ 8
    → 0 ∷ get_or xs 0 0 ∷ 0 ∷ get_or xs 1 0 ∷ 0 ∷ get_or xs 2 0 ∷ 0 ∷ get_or xs 3 0 ∷ 0 ∷ get_or xs 4 0 ∷ 0 ∷ get_or xs 5 0
    ∷ 0 ∷ get_or xs 6 0 ∷ 0 ∷ get_or xs 7 0 ∷ [] ≡ after_one_zero xs
eight_after_one_zero xs l = sym (ap after_one_zero (eight xs l))

pub eight_after_three_zeros : (xs : List ℕ) → length xs ≡ 8
    → 0 ∷ 0 ∷ 0 ∷ get_or xs 0 0 ∷ 0 ∷ 0 ∷ 0 ∷ get_or xs 1 0 ∷ 0 ∷ 0 ∷ 0 ∷ get_or xs 2 0 ∷ 0 ∷ 0 ∷ 0 ∷ get_or xs 3 0
    ∷ 0 ∷ 0 ∷ 0 ∷ get_or xs 4 0 ∷ 0 ∷ 0 ∷ 0 ∷ get_or xs 5 0 ∷ 0 ∷ 0 ∷ 0 ∷ get_or xs 6 0 ∷ 0 ∷ 0 ∷ 0 ∷ get_or xs 7 0 ∷ [] ≡ after_three_zeros xs
eight_after_three_zeros xs l = sym (ap after_three_zeros (eight xs l))

-- What was appended, as the spelling of these characters.
abbrev pub Appends : Charset → List ℕ → List ℕ → List ℕ → Type 0
Appends set front old new = option_map (λ piece. old ++ piece) (spell_all set front) ≡ Some new

appended : (set : Charset) (front piece old new : List ℕ) → spell_all set front ≡ Some piece → new ≡ old ++ piece
    → Appends set front old new
appended set front piece old new s e = ap (option_map (λ x. old ++ x)) s ∙ ap (λ x. Some x) (sym e)

pub puts_bytes : (answer set : Charset) (front old new : List ℕ) → answer ≡ set
    → (answer ≡ Latin1) ⊎ ((answer ≡ Ascii) ⊎ ((answer ≡ Utf8mb3) ⊎ ((answer ≡ Utf8mb4) ⊎ (answer ≡ Binary))))
    → ((k : ℕ) → get_or front k 0 < 0x80) → new ≡ old ++ front → Appends set front old new
puts_bytes answer set front old new same one k w =
    subst (λ (s : Charset). Appends s front old new) same (of answer one)
  where
    of : (answer : Charset) → (answer ≡ Latin1) ⊎ ((answer ≡ Ascii) ⊎ ((answer ≡ Utf8mb3) ⊎ ((answer ≡ Utf8mb4) ⊎ (answer ≡ Binary))))
        → Appends answer front old new
    of answer (inl e) =
        subst (λ (s : Charset). Appends s front old new) (sym e) (appended Latin1 front front old new (spelled_low Latin1 front latin1_plain k) w)
    of answer (inr (inl e)) =
        subst (λ (s : Charset). Appends s front old new) (sym e) (appended Ascii front front old new (spelled_low Ascii front ascii_plain k) w)
    of answer (inr (inr (inl e))) =
        subst (λ (s : Charset). Appends s front old new) (sym e) (appended Utf8mb3 front front old new (spelled_low Utf8mb3 front utf8mb3_plain k) w)
    of answer (inr (inr (inr (inl e)))) =
        subst (λ (s : Charset). Appends s front old new) (sym e) (appended Utf8mb4 front front old new (spelled_low Utf8mb4 front utf8mb4_plain k) w)
    of answer (inr (inr (inr (inr e)))) =
        subst (λ (s : Charset). Appends s front old new) (sym e) (appended Binary front front old new (spelled_low Binary front binary_plain k) w)

pub puts_two_bytes : (answer set : Charset) (front old new : List ℕ) → answer ≡ set → (answer ≡ Ucs2) ⊎ (answer ≡ Utf16)
    → ((k : ℕ) → get_or front k 0 < 0x80) → new ≡ old ++ after_one_zero front → Appends set front old new
puts_two_bytes answer set front old new same (inl e) k w =
    subst (λ (s : Charset). Appends s front old new) (sym e ∙ same)
    (appended Ucs2 front (after_one_zero front) old new (spelled_by Ucs2 (λ b. 0 ∷ b ∷ []) front ucs2_low k) w)
puts_two_bytes answer set front old new same (inr e) k w =
    subst (λ (s : Charset). Appends s front old new) (sym e ∙ same)
    (appended Utf16 front (after_one_zero front) old new (spelled_by Utf16 (λ b. 0 ∷ b ∷ []) front utf16_low k) w)

pub puts_four_bytes : (answer set : Charset) (front old new : List ℕ) → answer ≡ set → answer ≡ Utf32
    → ((k : ℕ) → get_or front k 0 < 0x80) → new ≡ old ++ after_three_zeros front → Appends set front old new
puts_four_bytes answer set front old new same e k w =
    subst (λ (s : Charset). Appends s front old new) (sym e ∙ same)
    (appended Utf32 front (after_three_zeros front) old new (spelled_by Utf32 (λ b. 0 ∷ 0 ∷ 0 ∷ b ∷ []) front utf32_low k) w)

-- What `chars_law` says of the characters that spell a text.
abbrev pub Decodes : Type 0
Decodes = (set : Charset) (codes text : List ℕ) → Spells set codes text → chars set text ≡ codes

plain_of : Decodes → (set : Charset) (text : List ℕ) → SpellsLow set
    → ((k : ℕ) → get_or text k 0 < 0x80) → IsPlain set text
plain_of d set text h k =
    let s = spelled_low set text h k in record
    { spelled = s; its_chars = d set text text s; below = k }

-- The sets of one byte below 80 spell ASCII by its bytes.
pub spells_ascii : Decodes → (set : Charset)
    → (set ≡ Latin1) ⊎ ((set ≡ Ascii) ⊎ ((set ≡ Utf8mb3) ⊎ ((set ≡ Utf8mb4) ⊎ (set ≡ Binary))))
    → SpellsAscii set
spells_ascii d set (inl e) = subst SpellsAscii (sym e) (λ text k. plain_of d Latin1 text latin1_plain k)
spells_ascii d set (inr (inl e)) = subst SpellsAscii (sym e) (λ text k. plain_of d Ascii text ascii_plain k)
spells_ascii d set (inr (inr (inl e))) = subst SpellsAscii (sym e) (λ text k. plain_of d Utf8mb3 text utf8mb3_plain k)
spells_ascii d set (inr (inr (inr (inl e)))) = subst SpellsAscii (sym e) (λ text k. plain_of d Utf8mb4 text utf8mb4_plain k)
spells_ascii d set (inr (inr (inr (inr e)))) = subst SpellsAscii (sym e) (λ text k. plain_of d Binary text binary_plain k)

-- A text that is seen to be ASCII is spelled by its bytes.
pub plain_tells : (answer : Bool) (set : Charset) (text : List ℕ) → SpellsAscii set
    → MatchBool answer (IsAscii text) (IsNotAscii text) → OnTrue answer (IsPlain set text)
plain_tells true set text ascii h = ascii text h
plain_tells false set text ascii h = tt

pub both_tell_plain : (answer : Bool) (from to : Charset) (text : List ℕ) → SpellsAscii from → SpellsAscii to
    → MatchBool answer (IsAscii text) (IsNotAscii text) → OnTrue answer (IsPlain from text × IsPlain to text)
both_tell_plain true from to text f t h = (f text h, t text h)
both_tell_plain false from to text f t h = tt
