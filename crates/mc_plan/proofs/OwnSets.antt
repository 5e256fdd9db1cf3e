-- A text keeps its bytes in its own set.
use Rattle.std.proofs.Common.{◌≡◌, ℕ, Bool, true, false, List, [], ◌∷◌, ◌++◌, Some, map, not, refl}
use Rattle.std.proofs.Common.{ap, subst, sym, ◌∙◌, ◌&&◌, ◌||◌, cond}
use Rattle.std.proofs.lemmas.Option.{option_and_then_some}
use Rattle.std.specs.Prelude.{◌↔◌, MatchBool, nat_lt, option_and_then}
use Rattle.std.specs.Option.{is_some}
use Rattle.mc_charset.specs.Chars.{IsWellFormed, Spells, chars, spell, spell_all}
use Rattle.mc_charset.specs.declared.charset.Charset.{Charset}
use Rattle.mc_convert.specs.Conversion.{IsConverted, converted_text, fits, is_binary, stand_in}

fits_own : (set : Charset) (code : ℕ) (front : List ℕ) → is_binary set ≡ false
    → spell set code ≡ Some front → fits set set code ≡ true
fits_own set code front b e =
    ap (λ t. (not t || nat_lt code 0x80) && is_some (spell set code)) b ∙ ap is_some e

stays_one : (set : Charset) (code : ℕ) (front : List ℕ) → is_binary set ≡ false
    → spell set code ≡ Some front → stand_in set set code ≡ code
stays_one set code front b e = ap (λ t. cond t code 0x3F) (fits_own set code front b e)

stays : (set : Charset) → is_binary set ≡ false → (codes text : List ℕ) → Spells set codes text
    → map (stand_in set set) codes ≡ codes
unfolding spell_all
stays set b [] text h = refl
stays set b (code ∷ codes) text h = option_and_then_some
    (λ front. option_and_then (λ rest. Some (front ++ rest)) (spell_all set codes))
    (spell set code) text h (λ front one more.
    option_and_then_some (λ rest. Some (front ++ rest)) (spell_all set codes) text more
    (λ rest others same. ap (λ c. c ∷ map (stand_in set set) codes) (stays_one set code front b one)
    ∙ ap (λ l. code ∷ l) (stays set b codes rest others)))

by_test : (b : Bool) (P Q : Type 0) → P → (b ≡ false → Q) → MatchBool b P Q
by_test true P Q p q = p
by_test false P Q p q = q refl

pub own_set : ((from to : Charset) (text converted : List ℕ)
    → IsConverted from to text converted ↔ (converted ≡ converted_text from to text))
    → ((set : Charset) (text : List ℕ) → IsWellFormed set text → Spells set (chars set text) text)
    → (set : Charset) (text : List ℕ) → IsWellFormed set text → converted_text set set text ≡ text
own_set is encodes set text w =
    let spelled = encodes set text w in
    sym ((is set set text text).0 (by_test (is_binary set) (text ≡ text)
    (Spells set (map (stand_in set set) (chars set text)) text) refl
    (λ b. subst (λ codes. Spells set codes text) (sym (stays set b (chars set text) text spelled))
    spelled)))
