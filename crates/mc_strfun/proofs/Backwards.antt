-- Characters written backwards, the first ones last.
use Rattle.std.proofs.Common.{◌≡◌, ℕ, ◌+◌, ◌-◌, ◌≤◌, List, [], ◌∷◌, ◌++◌, length, take, drop, reverse, append_assoc, append-nil, refl, sym, ap, subst, ◌∙◌, arith, length-append}
use Rattle.std.proofs.lemmas.List.{drop-drop, length-take-le, length-drop, reverse-append}
use Rattle.std.proofs.Math.Seq.{drop-append_seam, drop-length}
use Rattle.mc_charset.specs.declared.charset.Charset.{Charset}
use Rattle.mc_charset.specs.declared.char_at.CharAt.{CharAt}
use Rattle.mc_charset.specs.declared.char_at.CharAt.TheVariants.{Char, End, Bad}
use Rattle.mc_charset.specs.Chars.{chars, chars_behind, Spells, IsWellFormed}
use Rattle.mc_charset.specs.NextChar.{IsFirst, IsNextChar, HeadsChars}
use Rattle.mc_strfun.proofs.Joined.{Joins}
use Rattle.mc_strfun.proofs.Lengths.{Spells_cons, empty_spelled}

-- What the loop keeps.
abbrev pub IsWritten : Charset → List ℕ → List ℕ → ℕ → Type 0
IsWritten set text out at =
    (front : List ℕ) → Spells set (reverse (chars set (drop at text))) front
    → Spells set (reverse (chars set text)) (front ++ drop (length text - at) out)

pub written_none : (set : Charset) (text out : List ℕ) → length out ≡ length text → IsWritten set text out 0
written_none set text out e front s =
    let n : length text - 0 ≡ length out = omega (arith, e) in
    let nothing : drop (length text - 0) out ≡ [] = ap (λ k. drop k out) n ∙ drop-length out in
    subst (λ (t : List ℕ). Spells set (reverse (chars set text)) t)
    (sym (ap (λ t. front ++ t) nothing ∙ append-nil front)) s

last_spelled : Joins → (set : Charset) (code len : ℕ) (rest front : List ℕ) → IsFirst set rest code len → chars set rest ≡ code ∷ chars set (drop len rest)
    → Spells set (reverse (chars set (drop len rest))) front → Spells set (reverse (chars set rest)) (front ++ take len rest)
last_spelled j set code len rest front f e s =
    let one : Spells set (code ∷ []) (take len rest) =
    subst (λ (t : List ℕ). Spells set (code ∷ []) t) (append-nil (take len rest)) (Spells_cons set code [] (take len rest) [] f.spelled (empty_spelled set)) in
    let codes : reverse (chars set (drop len rest)) ++ (code ∷ []) ≡ reverse (chars set rest) =
    sym (ap reverse e ∙ reverse-append (code ∷ []) (chars set (drop len rest))) in
    subst (λ (c : List ℕ). Spells set c (front ++ take len rest)) codes (j set _ (code ∷ []) front (take len rest) s one)

written_over : (s n : ℕ) (out bytes : List ℕ) → s + length bytes ≡ n → n ≤ length out → drop s (take s out ++ (bytes ++ drop n out)) ≡ bytes ++ drop n out
written_over s n out bytes e h =
    let l : length (take s out) ≡ s = length-take-le s out (omega (arith, e, h)) in
    ap (λ k. drop k (take s out ++ (bytes ++ drop n out))) (sym l) ∙ drop-append_seam (take s out) (bytes ++ drop n out)

pub written_more : Joins → (set : Charset) (text out new : List ℕ) (at code len s : ℕ) → at ≤ length text → length out ≡ length text → IsFirst set (drop at text) code len
    → chars set (drop at text) ≡ code ∷ chars set (drop len (drop at text)) → IsWritten set text out at
    → s ≡ length text - at - len
    → new ≡ take s out ++ (take len (drop at text) ++ drop (s + length (take len (drop at text))) out) → IsWritten set text new (at + len)
written_more j set text out new at code len s w a f e i s_is o front h =
    let rest = drop at text in
    let within : len ≤ length text - at = omega (arith, f.within, length-drop at text) in
    let byte_len : length (take len rest) ≡ len = length-take-le len rest f.within in
    let behind : drop len rest ≡ drop (at + len) text = drop-drop len at text in
    let last = last_spelled j set code len rest front f e (subst (λ (t : List ℕ). Spells set (reverse (chars set t)) front) (sym behind) h) in
    let n : s + length (take len rest) ≡ length text - at = omega (arith, s_is, byte_len, within) in
    let place : length text - (at + len) ≡ s = omega (arith, s_is) in
    let tail : drop (length text - (at + len)) new ≡ take len rest ++ drop (length text - at) out =
    ap (λ k. drop k new) place ∙ ap (drop s) (o ∙ ap (λ k. take s out ++ (take len rest ++ drop k out)) n)
    ∙ written_over s (length text - at) out (take len rest) n (omega (arith, a)) in
    subst (λ (t : List ℕ). Spells set (reverse (chars set text)) t)
    (append_assoc front (take len rest) (drop (length text - at) out) ∙ ap (λ t. front ++ t) (sym tail))
    (i (front ++ take len rest) last)

pub as_long_again : (s n m : ℕ) (out bytes new : List ℕ) → new ≡ take s out ++ (bytes ++ drop (s + length bytes) out) → s + length bytes ≤ length out → length out ≡ m → length new ≡ m
as_long_again s n m out bytes new o h e =
    omega (
      arith,
      ap (λ t. length t) o,
      length-append (take s out) (bytes ++ drop (s + length bytes) out),
      length-append bytes (drop (s + length bytes) out),
      length-take-le s out (omega (arith, h)),
      length-drop (s + length bytes) out,
      h,
      e,
    )

pub ended : (set : Charset) (rest : List ℕ) (answer : CharAt) → IsWellFormed set rest → IsNextChar set rest answer → HeadsChars set rest answer
    → ((code len : ℕ) → answer ≡ Char code len → ⊥) → rest ≡ []
ended set rest (Char code len) w n h other = absurd (other code len refl)
ended set rest End w n h other = n
ended set rest Bad w n h other = absurd (h.1 w)

no_chars : (set : Charset) → Spells set (reverse (chars set [])) []
unfolding chars chars_behind
no_chars set = empty_spelled set

pub written_all : (set : Charset) (text out : List ℕ) (at : ℕ) → at ≤ length text → length out ≡ length text → drop at text ≡ [] → IsWritten set text out at → Spells set (reverse (chars set text)) out
written_all set text out at w a e i =
    let none : length text - at ≡ 0 = omega (arith, length-drop at text, ap (λ t. length t) e) in
    let first = i [] (subst (λ (t : List ℕ). Spells set (reverse (chars set t)) []) (sym e) (no_chars set)) in
    subst (λ (k : ℕ). Spells set (reverse (chars set text)) (drop k out)) none first
