-- The bytes of a text in a set of one-byte spellings are its characters.
use Rattle.std.proofs.Common.{◌≡◌, ℕ, ◌+◌, ◌-◌, ◌<◌, true, List, [], ◌∷◌, ◌++◌, append-nil, Option, Some, None, map, length, get_or, take, take_all, drop, length-drop, refl, sym, ap, ◌∙◌, arith}
use Rattle.std.specs.Prelude.{option_and_then}
use Rattle.std.specs.List.{flat_map}
use Rattle.std.proofs.lemmas.Grind.{flat_map-append}
use Rattle.std.proofs.lemmas.List.{take-map, take_more}
use Rattle.std.proofs.lemmas.List.Folds.{flat_map-map}
use Rattle.mc_charset.specs.declared.charset.Charset.{Charset}
use Rattle.mc_charset.specs.declared.charset.Charset.TheVariants.{Latin1, Ascii, Utf8mb3, Utf8mb4, Ucs2, Utf16, Utf32, Binary}
use Rattle.mc_charset.specs.Chars.{spell, spell_all, chars, Spells, IsWellFormed}
use Rattle.mc_order.specs.Meaning.{IsCharOf}
use Rattle.mc_order.specs.declared.pad.Pad.{Pad}
use Rattle.mc_order.specs.Bin.{is_one_byte, first_byte}
use Rattle.mc_order.specs.Characters.{AreCharsOf-parts}
use Rattle.mc_order.specs.Spelling.{one_byte}
use Rattle.mc_order.specs.Order.{list_order}
use Rattle.mc_order.specs.WithoutContractions.{flat_map-split}
use Rattle.mc_table8.specs.PlainWeights.{plain_weight}
use Rattle.mc_table8.specs.Table8.{byte_entry}
use Rattle.mc_table8.specs.Table8Meaning.{is_byte_set, entry_weights, char_weights, bytes_weights}

take_rest : (xs : List ℕ) (n : ℕ) → take (length xs - n) (drop n xs) ≡ drop n xs
take_rest xs n = take_all (length xs - n) (drop n xs) (omega (arith, length-drop n xs))

-- What two lists begin with decides nothing: a clause of `order_laws`.
abbrev pub FrontDecidesNothing : Type 0
FrontDecidesNothing =
    (pad : Pad) (space : ℕ) (front a b : List ℕ) →
    list_order pad space (front ++ a) (front ++ b) ≡ list_order pad space a b

-- Bytes in front whose weights are the same decide nothing.
pub behind_weights : FrontDecidesNothing → (pad : Pad) (space : ℕ) (f : ℕ → List ℕ) (a b : List ℕ) (n : ℕ) →
    flat_map f (take n a) ≡ flat_map f (take n b) →
    list_order pad space (flat_map f (take (length a - n) (drop n a))) (flat_map f
    (take (length b - n) (drop n b)))
    ≡ list_order pad space (flat_map f a) (flat_map f b)
behind_weights front pad space f a b n e =
    rw (take_rest a n, take_rest b n)
    (sym (rw (flat_map-split f n a, flat_map-split f n b, e)
    (front pad space (flat_map f (take n b)) (flat_map f (drop n a)) (flat_map f
    (drop n b)))))

-- What both texts begin with decides nothing.
pub behind_bytes : FrontDecidesNothing → (pad : Pad) (space : ℕ) (f : ℕ → List ℕ) (a b : List ℕ) (n : ℕ) →
    take n a ≡ take n b →
    list_order pad space (flat_map f (take (length a - n) (drop n a))) (flat_map f
    (take (length b - n) (drop n b)))
    ≡ list_order pad space (flat_map f a) (flat_map f b)
behind_bytes front pad space f a b n e =
    behind_weights front pad space f a b n (ap (flat_map f) e)

-- One byte more of one weight, the same in both texts.
one_weight : (entry : ℕ × Option ℕ) (weight : ℕ) → plain_weight entry ≡ weight → 0 < weight →
    entry_weights entry ≡ weight ∷ []
one_weight (first, None) weight e some = ap (λ w. w ∷ []) e
one_weight (first, Some second) weight e some = absurd (omega arith)

step : (f : ℕ → List ℕ) (a : List ℕ) (i : ℕ) → i < length a →
    flat_map f (take (i + 1) a) ≡ flat_map f (take i a) ++ f (get_or a i 0)
step f a i l =
    ap (flat_map f) (take_more a i 0 l)
    ∙ flat_map-append f (take i a) (get_or a i 0 ∷ [])
    ∙ ap (λ t. flat_map f (take i a) ++ t) (append-nil (f (get_or a i 0)))

pub plain_more : (entries : List (ℕ × Option ℕ)) (a b : List ℕ) (i weight : ℕ) → i < length a →
    i < length b → bytes_weights entries (take i a) ≡ bytes_weights entries (take i b) →
    0 < weight → plain_weight (byte_entry entries (get_or a i 0)) ≡ weight →
    plain_weight (byte_entry entries (get_or b i 0)) ≡ weight →
    bytes_weights entries (take (i + 1) a) ≡ bytes_weights entries (take (i + 1) b)
plain_more entries a b i weight la lb front some ea eb =
    let f : ℕ → List ℕ = λ byte. entry_weights (byte_entry entries byte) in
    step f a i la
    ∙ rw (
      front,
      one_weight (byte_entry entries (get_or a i 0)) weight ea some,
      ← one_weight (byte_entry entries (get_or b i 0)) weight eb some,
    ) (sym (step f b i lb))

-- latin1 and ascii spell each character by one byte.
pub by_one_byte : (set : Charset) → is_byte_set set ≡ true → is_one_byte set ≡ true
by_one_byte Latin1 e = refl
by_one_byte Ascii e = refl
by_one_byte Utf8mb3 e = absurd cc
by_one_byte Utf8mb4 e = absurd cc
by_one_byte Ucs2 e = absurd cc
by_one_byte Utf16 e = absurd cc
by_one_byte Utf32 e = absurd cc
by_one_byte Binary e = absurd cc

joined : (front rest : Option (List ℕ)) (a b text : List ℕ) → front ≡ Some a → rest ≡ Some b →
    option_and_then (λ f. option_and_then (λ r. Some (f ++ r)) rest) front ≡ Some text →
    text ≡ a ++ b
joined None rest a b text e d h = absurd cc
joined (Some f) None a b text e d h = absurd cc
joined (Some f) (Some r) a b text e d h = cc

some_same : {x y : List ℕ} → Some x ≡ Some y → x ≡ y
some_same e = cc

-- The text is the bytes that spell its characters.
spelled_bytes : (set : Charset) → is_one_byte set ≡ true → (codes text : List ℕ) →
    Spells set codes text → text ≡ map (λ code. first_byte (spell set code)) codes
unfolding spell_all
spelled_bytes set one [] text h = sym (some_same h)
spelled_bytes set one (c ∷ cs) text h =
    let parts = AreCharsOf-parts set c cs (text, h) in
    let byte = one_byte set c parts.0.0 one parts.0.1 in
    let is : first_byte (spell set c) ≡ byte.0 =
    ap first_byte parts.0.1 ∙ ap (λ t. first_byte (Some t)) byte.1 in
    let rest = spelled_bytes set one cs parts.1.0 parts.1.1 in
    joined (spell set c) (spell_all set cs) parts.0.0 parts.1.0 text parts.0.1 parts.1.1 h
    ∙ ap (λ t. t ++ parts.1.0) byte.1
    ∙ ap (λ t. byte.0 ∷ t) rest
    ∙ ap (λ b. b ∷ map (λ code. first_byte (spell set code)) cs) (sym is)

-- The weights of characters are those of their bytes.
weights_of_bytes : (set : Charset) (entries : List (ℕ × Option ℕ)) (codes : List ℕ) →
    bytes_weights entries (map
    (λ code. first_byte (spell set code)) codes)
    ≡ flat_map (char_weights set entries) codes
unfolding char_weights
weights_of_bytes set entries codes =
    flat_map-map (λ byte. entry_weights (byte_entry entries byte))
    (λ code. first_byte (spell set code)) codes

-- `chars` reads what was spelled.
abbrev pub Decodes : Charset → Type 0
Decodes set = (codes text : List ℕ) → Spells set codes text → chars set text ≡ codes

pub text_weights : (set : Charset) (entries : List (ℕ × Option ℕ)) (text : List ℕ) →
    is_byte_set set ≡ true → Decodes set → IsWellFormed set text →
    bytes_weights entries text
    ≡ flat_map (char_weights set entries) (chars set text)
text_weights set entries text on_bytes decodes h =
    ap (bytes_weights entries)
    (spelled_bytes set (by_one_byte set on_bytes) h.0 text h.1)
    ∙ weights_of_bytes set entries h.0
    ∙ ap (flat_map (char_weights set entries)) (sym (decodes h.0 text h.1))

pub front_weights : (set : Charset) (entries : List (ℕ × Option ℕ)) (text : List ℕ) (k : ℕ) →
    is_byte_set set ≡ true → Decodes set → IsWellFormed set text →
    bytes_weights entries (take k text)
    ≡ flat_map (char_weights set entries) (take k (chars set text))
front_weights set entries text k on_bytes decodes h =
    ap (bytes_weights entries)
    (ap (take k) (spelled_bytes set (by_one_byte set on_bytes) h.0 text h.1)
    ∙ take-map (λ code. first_byte (spell set code)) k h.0)
    ∙ weights_of_bytes set entries (take k h.0)
    ∙ ap (λ codes. flat_map (char_weights set entries) (take k codes))
    (sym (decodes h.0 text h.1))

pub compare_is : (set : Charset) (entries : List (ℕ × Option ℕ)) (pad : Pad) (space : ℕ)
    (a b : List ℕ) → is_byte_set set ≡ true → Decodes set → IsWellFormed set a →
    IsWellFormed set b →
    list_order pad space (bytes_weights entries a)
    (bytes_weights entries b)
    ≡ list_order pad space (flat_map (char_weights set entries) (chars set a)) (flat_map
    (char_weights set entries) (chars set b))
compare_is set entries pad space a b on_bytes decodes ha hb =
    rw (
      text_weights set entries a on_bytes decodes ha,
      text_weights set entries b on_bytes
          decodes hb,
    ) refl

-- In latin1 and ascii one byte spells a character.
pub has_byte : (set : Charset) (code : ℕ) → is_byte_set set ≡ true → IsCharOf set code →
    (byte : ℕ) × (spell set code ≡ Some (byte ∷ []))
has_byte set code on_bytes is =
    let h = one_byte set code is.0 (by_one_byte set on_bytes) is.1 in
    (h.0, is.1 ∙ ap (λ t. Some t) h.1)
