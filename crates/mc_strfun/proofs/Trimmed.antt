-- Copies removed at the sides, and the bytes of what is left.
use Rattle.std.proofs.Common.{◌≡◌, ℕ, ◌+◌, ◌-◌, true, false, List, [], ◌∷◌, ◌++◌, length, take, drop, refl, sym, ap, subst, ◌∙◌, arith}
use Rattle.std.proofs.lemmas.Slice.Eq.{bytes_eq-Decides}
use Rattle.std.proofs.lemmas.List.{drop-drop, reverse-reverse}
use Rattle.std.proofs.Math.Seq.{take-append_seam}
use Rattle.mc_charset.specs.declared.charset.Charset.{Charset}
use Rattle.mc_charset.specs.Chars.{chars, Spells, IsWellFormed}
use Rattle.mc_strfun.specs.Replaced.{begins}
use Rattle.mc_strfun.specs.Trimmed.{behind_copies, trimmed, without_leading, without_trailing}
use Rattle.mc_strfun.specs.declared.trimming.Side.{Side}
use Rattle.mc_strfun.specs.declared.trimming.Side.TheVariants.{Both, Leading, Trailing}
use Rattle.mc_strfun.proofs.Joined.{Encodes}
use Rattle.mc_strfun.proofs.Replaced.{Fronts, by_begins, by_not, front_bytes, not_begun, split_codes}

-- What `chars_law` says.
abbrev pub Decodes : Type 0
Decodes = (set : Charset) (codes text : List ℕ) → Spells set codes text → chars set text ≡ codes

-- The lists

passed_by : (removed front codes : List ℕ) → behind_copies (length front) removed (front ++ codes) ≡ behind_copies 0 removed codes
unfolding behind_copies
passed_by removed [] codes = refl
passed_by removed (c ∷ front) codes = passed_by removed front codes

-- A copy in front is removed.
pub leading-copy : (removed codes : List ℕ) → without_leading removed (removed ++ codes) ≡ without_leading removed codes
unfolding behind_copies
leading-copy [] codes = refl
leading-copy (first ∷ others) codes =
    let removed = first ∷ others in
    let begun : begins removed (removed ++ codes) ≡ true = (bytes_eq-Decides removed (take (length removed) (removed ++ codes))).1 (sym (take-append_seam removed codes)) in
    let one : length removed - 1 ≡ length others = omega arith in
    by_begins (begins removed (removed ++ codes)) (behind_copies (length removed - 1) removed (others ++ codes)) (first ∷ (others ++ codes)) begun
    ∙ ap (λ n. behind_copies n removed (others ++ codes)) one ∙ passed_by removed others codes

-- Where no copy begins, nothing is removed.
pub leading-none : (removed codes : List ℕ) → begins removed codes ≡ false → without_leading removed codes ≡ codes
unfolding behind_copies
leading-none [] codes e = refl
leading-none (first ∷ others) [] e = refl
leading-none (first ∷ others) (code ∷ codes) e = by_not (begins (first ∷ others) (code ∷ codes)) _ _ e

trailing_nothing : (codes : List ℕ) → without_trailing [] codes ≡ codes
unfolding without_trailing
trailing_nothing codes = reverse-reverse codes

trimmed_nothing : (side : Side) (removed codes : List ℕ) → removed ≡ [] → trimmed side removed codes ≡ codes
trimmed_nothing Both [] codes e = trailing_nothing codes
trimmed_nothing Leading [] codes e = refl
trimmed_nothing Trailing [] codes e = trailing_nothing codes
trimmed_nothing side (first ∷ others) codes e = absurd (let n = ap (λ x. length x) e in omega (arith, n))

-- The bytes

-- Where nothing is to be removed, the text is what is left.
pub nothing_trimmed : (set : Charset) (side : Side) (removed codes text value : List ℕ) → removed ≡ [] → Spells set codes text → value ≡ text
    → Spells set (trimmed side removed codes) value
nothing_trimmed set side removed codes text value e s v =
    subst (λ (x : List ℕ). Spells set (trimmed side removed codes) x) (sym v)
    (subst (λ (c : List ℕ). Spells set c text) (sym (trimmed_nothing side removed codes e)) s)

-- From this place on there is left what is left of the whole text.
abbrev pub IsLeft : Charset → List ℕ → List ℕ → ℕ → Type 0
IsLeft set removed text at =
    IsWellFormed set (drop at text)
    × (without_leading (chars set removed) (chars set text) ≡ without_leading (chars set removed) (chars set (drop at text)))

pub left_more : Fronts → Encodes → (set : Charset) (removed text : List ℕ) (at : ℕ) → IsWellFormed set removed → take (length removed) (drop at text) ≡ removed
    → IsLeft set removed text at → IsLeft set removed text (at + length removed)
left_more f e set removed text at w copy left =
    let rest = drop at text in
    let more = drop (length removed) rest in
    let spelled = e set removed w in
    let codes : chars set rest ≡ chars set removed ++ chars set more =
    ap (chars set) (split_codes removed rest copy) ∙ f set (chars set removed) removed more spelled in
    let both = front_bytes set (chars set removed) (chars set more) removed rest spelled (subst (λ (c : List ℕ). Spells set c rest) codes (e set rest left.0)) in
    let place : more ≡ drop (at + length removed) text = drop-drop (length removed) at text in (
      (chars set more, subst (λ (x : List ℕ). Spells set (chars set more) x) place both.1),
      left.1 ∙ ap (without_leading (chars set removed)) codes ∙ leading-copy (chars set removed) (chars set more)
          ∙ ap (λ x. without_leading (chars set removed) (chars set x)) place,
    )

pub left_all : Encodes → (set : Charset) (removed text : List ℕ) (at : ℕ) → IsWellFormed set removed → (take (length removed) (drop at text) ≡ removed → ⊥)
    → IsLeft set removed text at → Spells set (without_leading (chars set removed) (chars set text)) (drop at text)
left_all e set removed text at w no_copy left =
    let rest = drop at text in
    let spelled = e set rest left.0 in
    let begun = not_begun set (chars set removed) removed rest (e set removed w) spelled no_copy (begins (chars set removed) (chars set rest)) refl in
    subst (λ (c : List ℕ). Spells set c rest) (sym (left.1 ∙ leading-none (chars set removed) (chars set rest) begun)) spelled
