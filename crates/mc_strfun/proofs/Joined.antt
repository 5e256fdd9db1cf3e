-- Joined texts are spelled by their joined characters.
use Rattle.std.proofs.Common.{◌≡◌, ℕ, zero, suc, List, [], ◌∷◌, ◌++◌, All, map, refl, sym, ap, ◌∙◌}
use Rattle.std.specs.Prelude.{option_and_then}
use Rattle.std.specs.List.{flat_map, join_by, repeat}
use Rattle.std.proofs.lemmas.List.Elements.{All-head, All-tail}
use Rattle.mc_charset.specs.declared.charset.Charset.{Charset}
use Rattle.mc_charset.specs.Chars.{chars, Spells, IsWellFormed}
use Rattle.mc_values.specs.Values.{within_limit}
use Rattle.mc_strfun.specs.Joins.{joined, joined_with, spelled_within}
use Rattle.mc_strfun.proofs.Lengths.{empty_spelled}

-- What `chars_law` says.
abbrev pub Joins : Type 0
Joins = (set : Charset) (codes more text rest : List ℕ) → Spells set codes text → Spells set more rest → Spells set (codes ++ more) (text ++ rest)

abbrev pub Encodes : Type 0
Encodes = (set : Charset) (text : List ℕ) → IsWellFormed set text → Spells set (chars set text) text

others_spelled : {A : Type 0} → Joins → Encodes → (set : Charset) (f : A → List ℕ) (codes separator : List ℕ) (parts : List A) → Spells set codes separator
    → All (λ part. IsWellFormed set (f part)) parts
    → Spells set (flat_map (λ part. codes ++ part) (map (λ part. chars set (f part)) parts)) (flat_map (λ part. separator ++ f part) parts)
others_spelled j e set f codes separator [] s w = empty_spelled set
others_spelled j e set f codes separator (part ∷ parts) s w =
    let first = e set (f part) (All-head (λ p. IsWellFormed set (f p)) part parts w) in
    j set (codes ++ chars set (f part)) _ (separator ++ f part) _ (j set codes (chars set (f part)) separator (f part) s first)
    (others_spelled j e set f codes separator parts s (All-tail (λ p. IsWellFormed set (f p)) part parts w))

pub parts_spelled : {A : Type 0} → Joins → Encodes → (set : Charset) (f : A → List ℕ) (codes separator : List ℕ) (parts : List A) → Spells set codes separator
    → All (λ part. IsWellFormed set (f part)) parts
    → Spells set (joined_with codes (map (λ part. chars set (f part)) parts)) (join_by f separator parts)
parts_spelled j e set f codes separator [] s w = empty_spelled set
parts_spelled j e set f codes separator (part ∷ parts) s w =
    j set (chars set (f part)) _ (f part) _ (e set (f part) (All-head (λ p. IsWellFormed set (f p)) part parts w))
    (others_spelled j e set f codes separator parts s (All-tail (λ p. IsWellFormed set (f p)) part parts w))

joined-nil : (parts : List (List ℕ)) → joined_with [] parts ≡ joined parts
joined-nil [] = refl
joined-nil (part ∷ parts) = refl

-- The value of the bytes is that of the characters.
pub spelled_value : (set : Charset) (codes text : List ℕ) → Spells set codes text → within_limit text ≡ spelled_within set codes
spelled_value set codes text s = sym (ap (option_and_then within_limit) s)

pub concat_value : {A : Type 0} → Joins → Encodes → (set : Charset) (f : A → List ℕ) (parts : List A) → All (λ part. IsWellFormed set (f part)) parts
    → within_limit (join_by f [] parts) ≡ spelled_within set (joined (map (λ part. chars set (f part)) parts))
concat_value j e set f parts w =
    spelled_value set _ _ (parts_spelled j e set f [] [] parts (empty_spelled set) w)
    ∙ ap (spelled_within set) (joined-nil (map (λ part. chars set (f part)) parts))

pub ws_value : {A : Type 0} → Joins → Encodes → (set : Charset) (f : A → List ℕ) (separator : List ℕ) (parts : List A) → IsWellFormed set separator
    → All (λ part. IsWellFormed set (f part)) parts
    → within_limit (join_by f separator parts) ≡ spelled_within set (joined_with (chars set separator) (map (λ part. chars set (f part)) parts))
ws_value j e set f separator parts s w =
    spelled_value set _ _ (parts_spelled j e set f (chars set separator) separator parts (e set separator s) w)

pub copies_spelled : Joins → (set : Charset) (codes text : List ℕ) (count : ℕ) → Spells set codes text → Spells set (repeat count codes) (repeat count text)
copies_spelled j set codes text zero h = empty_spelled set
copies_spelled j set codes text (suc count) h =
    j set codes (repeat count codes) text (repeat count text) h (copies_spelled j set codes text count h)
