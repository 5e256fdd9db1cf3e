-- What is left of a text where copies at its end are removed one after the other.
use Rattle.std.proofs.Common.{◌≡◌, ℕ, ◌-◌, ◌<◌, ◌≤◌, List, ◌++◌, length, take, drop, reverse, sym, ap, subst, ◌∙◌, arith}
use Rattle.std.proofs.lemmas.List.{length-take-le, reverse-reverse, take-append-drop, take-take}
use Rattle.mc_charset.specs.declared.charset.Charset.{Charset}
use Rattle.mc_charset.specs.Chars.{chars, Spells, IsWellFormed}
use Rattle.mc_strfun.specs.Trimmed.{without_leading, without_trailing}
use Rattle.mc_strfun.proofs.Endings.{NoPrefix, ended_by}
use Rattle.mc_strfun.proofs.Joined.{Encodes}
use Rattle.mc_strfun.proofs.LeftOver.{none_at_end}
use Rattle.mc_strfun.proofs.Paddings.{chars_filled}
use Rattle.mc_strfun.proofs.Trimmed.{Decodes, leading-copy}

-- Up to this place there is left what is left of the whole text.
abbrev pub IsLeftUpTo : Charset → List ℕ → List ℕ → ℕ → Type 0
IsLeftUpTo set removed text end =
    IsWellFormed set (take end text)
    × (without_trailing (chars set removed) (chars set text) ≡ without_trailing (chars set removed) (chars set (take end text)))

-- A copy at the end is removed.
trailing-copy : (removed codes more : List ℕ) → reverse codes ≡ reverse removed ++ more → without_trailing removed codes ≡ without_trailing removed (reverse more)
unfolding without_trailing
trailing-copy removed codes more e =
    ap (λ c. reverse (without_leading (reverse removed) c)) e
    ∙ ap reverse (leading-copy (reverse removed) more)
    ∙ ap (λ c. reverse (without_leading (reverse removed) c)) (sym (reverse-reverse more))

pub end_more : Decodes → Encodes → NoPrefix → (set : Charset) (removed text : List ℕ) (end next : ℕ) → IsWellFormed set removed
    → take end text ≡ take next text ++ removed → IsLeftUpTo set removed text end → IsLeftUpTo set removed text next
end_more d e n set removed text end next w joins left =
    let before = take next text in
    let codes = chars set (take end text) in
    let own = subst (λ (c : List ℕ). Spells set c removed) (sym (reverse-reverse (chars set removed))) (e set removed w) in
    let its = subst (λ (t : List ℕ). Spells set codes t) joins (e set (take end text) left.0) in
    let found = ended_by n set (reverse (chars set removed)) (reverse codes) before removed own
    (subst (λ (c : List ℕ). Spells set c (before ++ removed)) (sym (reverse-reverse codes)) its) in (
      (reverse found.0, found.2),
      left.1 ∙ trailing-copy (chars set removed) codes found.0 found.1
          ∙ ap (without_trailing (chars set removed)) (sym (d set (reverse found.0) before found.2)),
    )

pub end_all : Encodes → (set : Charset) (removed text : List ℕ) (end : ℕ) → IsWellFormed set removed → 0 < length removed
    → (drop (length (take end text) - length removed) (take end text) ≡ removed → ⊥)
    → IsLeftUpTo set removed text end → Spells set (without_trailing (chars set removed) (chars set text)) (take end text)
end_all e set removed text end w h no_copy left =
    let its = e set (take end text) left.0 in
    let spelled = e set removed w in
    let same = none_at_end set (chars set removed) (chars set (take end text)) removed (take end text) (chars_filled set (chars set removed) removed spelled h) spelled its no_copy in
    subst (λ (c : List ℕ). Spells set c (take end text)) (sym (left.1 ∙ same)) its

-- The text up to a place, where it ends with a copy, is that before the copy and the copy.
pub without_copy : (removed text : List ℕ) (end : ℕ) → end ≤ length text → drop (length (take end text) - length removed) (take end text) ≡ removed
    → take end text ≡ take (end - length removed) text ++ removed
without_copy removed text end h e =
    let len : length (take end text) ≡ end = length-take-le end text h in
    let k = length (take end text) - length removed in
    let place : k ≡ end - length removed = omega (arith, len) in
    sym (take-append-drop k (take end text)) ∙ ap (λ t. take k (take end text) ++ t) e
    ∙ ap (λ t. t ++ removed) (take-take k end text (omega (arith, place)) ∙ ap (λ n. take n text) (omega (arith, place)))
