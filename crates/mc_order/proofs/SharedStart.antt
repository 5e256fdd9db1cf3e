-- What two texts share in front is all that they share: behind it their characters part at once.
use Rattle.std.proofs.Common.{◌≡◌, ◌≢◌, ℕ, suc, ◌+◌, ◌-◌, ◌/◌, ◌%◌, ◌<◌, ◌≤◌, ◌&&◌, ◌||◌, nat_lt, nat_le, Bool, true, false, List, [], ◌∷◌, ◌++◌, Some, get_or, append-nil, length-append, length, take, drop, length-drop, refl, sym, ap, subst, ◌∙◌, ⊎_elim, arith}
use Rattle.std.proofs.lemmas.Bool.{cases_lt}
use Rattle.std.proofs.lemmas.Bool.Decides.{nat_tests}
use Rattle.std.proofs.lemmas.List.{length-take, get_or-take, get_or-drop, drop-drop}
use Rattle.std.proofs.Math.Seq.{take-add}
use Rattle.mc_charset.specs.declared.charset.Charset.{Charset}
use Rattle.mc_charset.specs.declared.charset.Charset.TheVariants.{Latin1, Ascii, Utf8mb3, Utf8mb4, Ucs2, Utf16, Utf32, Binary}
use Rattle.mc_charset.specs.Rows.{Range, count, sequence}
use Rattle.mc_charset.specs.Tables.{rows}
use Rattle.mc_charset.specs.Chars.{spell, chars, Spells}
use Rattle.mc_order.specs.Spelling.{all_rows, spelling_row}
use Rattle.mc_order.specs.Boundary.{IsBoundary, PartAtOnce, may_begin}
use Rattle.mc_order.proofs.Boundary.{positive_count, quotient_below, plus_none, closed_spelling, split, nothing_spelled, Spells-cons, Spells-none}

-- The first bytes of the ranges begin a spelling at a text's start.
abbrev opening : Charset → Range → Bool
opening Utf8mb3 r = nat_lt r.greatest 0x80 || nat_lt 0xBF r.least
opening Utf8mb4 r = nat_lt r.greatest 0x80 || nat_lt 0xBF r.least
opening Utf16 r = nat_lt r.greatest 0xDC || nat_lt 0xDF r.least
opening _ r = true

abbrev opens : Charset → List Range → Bool
opens set [] = false
opens set (r ∷ rs) = nat_le r.least r.greatest && opening set r

all_open : (set : Charset) → all_rows (opens set) (rows set) ≡ true
all_open Latin1 = refl
all_open Ascii = refl
all_open Utf8mb3 = refl
all_open Utf8mb4 = refl
all_open Ucs2 = refl
all_open Utf16 = refl
all_open Utf32 = refl
all_open Binary = refl

begins_first : (set : Charset) (r : Range) (byte : ℕ) → opening set r ≡ true → r.least ≤ byte →
    byte ≤ r.greatest → may_begin set 0 byte ≡ true
begins_first Utf8mb3 r byte e l g = grind (arith, nat_tests)
begins_first Utf8mb4 r byte e l g = grind (arith, nat_tests)
begins_first Utf16 r byte e l g = grind (arith, nat_tests)
begins_first Ucs2 r byte e l g = refl
begins_first Utf32 r byte e l g = refl
begins_first Latin1 r byte e l g = refl
begins_first Ascii r byte e l g = refl
begins_first Binary r byte e l g = refl

-- The list has a first byte, with which a spelling may begin at a text's start.
abbrev Opens : Charset → List ℕ → Type 0
Opens set front =
    (byte : ℕ) × (more : List ℕ) × (front ≡ byte ∷ more) × (may_begin set 0 byte ≡ true)

opens_sequence : (set : Charset) (rs : List Range) (n : ℕ) → opens set rs ≡ true → n < count rs →
    Opens set (sequence rs n)
opens_sequence set [] n e l = absurd cc
opens_sequence set (r ∷ rs) n e l =
    let size : 0 < count rs = positive_count (r.greatest + 1 - r.least) (count rs) n l in
    let q : n / count rs < r.greatest + 1 - r.least =
    quotient_below n (r.greatest + 1 - r.least) (count rs) size l in (
      r.least + n / count rs,
      sequence rs (n % count rs),
      refl,
      begins_first set r (r.least + n / count rs) (grind (arith, nat_tests)) (omega arith)
          (omega arith),
    )

opens_spelling : (set : Charset) (code : ℕ) (front : List ℕ) → spell set code ≡ Some front →
    Opens set front
opens_spelling set code front s =
    let h = spelling_row set (opens set) code front (all_open set) s in
    let P : List ℕ → Type 0 = Opens set in
    subst P (sym h.3) (opens_sequence set h.0 h.1 h.4 h.2)

-- Behind characters all begins as at a text's start.
begins_behind : (set : Charset) (codes text : List ℕ) (byte : ℕ) → Spells set codes text →
    may_begin set (length text) byte ≡ may_begin set 0 byte
begins_behind set [] text byte h =
    ap (λ t. may_begin set (length t) byte) (nothing_spelled set text h)
begins_behind set (code ∷ codes) text byte h =
    let p = split set code codes text h in
    let size : length text ≡ length p.0 + length p.1 = ap length p.4 ∙ length-append p.0 p.1 in
    ap (λ k. may_begin set k byte) size
    ∙ (closed_spelling set code p.0 p.2).1 (length p.1) byte
    ∙ begins_behind set codes p.1 byte p.3

first_of : (text more : List ℕ) (byte : ℕ) → text ≡ byte ∷ more → get_or text 0 0 ≡ byte
first_of text more byte e = ap (λ t. get_or t 0 0) e

plus_nothing : (text : List ℕ) (at : ℕ) → get_or text (at + 0) 0 ≡ get_or text at 0
plus_nothing text at = ap (λ k. get_or text k 0) (plus_none at)

begins_rest : (set : Charset) (text codes rest : List ℕ) (at : ℕ) → Spells set codes (take at text) →
    Spells set rest (drop at text) → at < length text → may_begin set at (get_or text at 0) ≡ true
begins_rest set text codes [] at front behind below =
    let none = ap length (nothing_spelled set (drop at text) behind) in
    absurd (omega (arith, none, length-drop at text))
begins_rest set text codes (code ∷ rest) at front behind below =
    let p = split set code rest (drop at text) behind in
    let first = opens_spelling set code p.0 p.2 in
    let byte : get_or text at 0 ≡ first.0 =
    sym (plus_nothing text at) ∙ sym (get_or-drop at text 0 0)
    ∙ first_of (drop at text) (first.1 ++ p.1) first.0 (p.4 ∙ ap (λ t. t ++ p.1) first.2) in
    let size : length (take at text) ≡ at = omega (arith, length-take at text) in
    ap (may_begin set at) byte
    ∙ ap (λ k. may_begin set k first.0) (sym size)
    ∙ begins_behind set codes (take at text) first.0 front
    ∙ first.3

-- Where characters end and begin inside a text a spelling may begin.
pub begins_at : (set : Charset) (text : List ℕ) (at : ℕ) → IsBoundary set text at →
    at < length text → may_begin set at (get_or text at 0) ≡ true
begins_at set text at h below = begins_rest set text h.0 h.1 at h.2 h.3 below

-- Behind this place the texts have no place more where both have some end and their bytes agree.
abbrev pub NoneBehind : Charset → List ℕ → List ℕ → ℕ → Type 0
NoneBehind set a b start =
    (at : ℕ) → start < at → at ≤ length a → at ≤ length b → take at a ≡ take at b →
    IsBoundary set a at → IsBoundary set b at → ⊥

pub none_behind_shared : (set : Charset) (a b : List ℕ) (start : ℕ) →
    (start < length a → start < length b → get_or a start 0 ≢ get_or b start 0) →
    NoneBehind set a b start
none_behind_shared set a b start differs at behind la lb same ba bb =
    differs (omega arith) (omega arith)
    (sym (get_or-take at a start 0 behind) ∙ ap (λ t. get_or t start 0) same
    ∙ get_or-take at b start 0 behind)

pub none_behind_less : (set : Charset) (a b : List ℕ) (start : ℕ) → NoneBehind set a b start →
    (IsBoundary set a start × IsBoundary set b start → ⊥) → NoneBehind set a b (start - 1)
none_behind_less set a b start none here at behind la lb same ba bb =
    ⊎_elim (λ past. none at past la lb same ba bb)
    (λ within. let e : at ≡ start = omega arith in
    here (subst (IsBoundary set a) e ba, subst (IsBoundary set b) e bb))
    (cases_lt start at)

taken : (t u : List ℕ) → take (length t) (t ++ u) ≡ t
taken [] u = refl
taken (x ∷ t) u = ap (λ r. x ∷ r) (taken t u)

dropped : (t u : List ℕ) → drop (length t) (t ++ u) ≡ u
dropped [] u = refl
dropped (x ∷ t) u = dropped t u

taken_further : (text t u : List ℕ) (at : ℕ) → drop at text ≡ t ++ u →
    take (at + length t) text ≡ take at text ++ t
taken_further text t u at is =
    take-add at (length t) text ∙ ap (λ r. take at text ++ take (length t) r) is
    ∙ ap (λ r. take at text ++ r) (taken t u)

dropped_further : (text t u : List ℕ) (at : ℕ) → drop at text ≡ t ++ u →
    drop (at + length t) text ≡ u
dropped_further text t u at is =
    sym (drop-drop (length t) at text) ∙ ap (drop (length t)) is ∙ dropped t u

-- Joined lists of characters spell joined texts.
abbrev pub Joins : Charset → Type 0
Joins set =
    (codes more text rest : List ℕ) → Spells set codes text → Spells set more rest →
    Spells set (codes ++ more) (text ++ rest)

-- Characters end and begin one character further.
one_further : (set : Charset) (text front rest t u : List ℕ) (at code : ℕ) → Joins set →
    Spells set front (take at text) → spell set code ≡ Some t → drop at text ≡ t ++ u →
    Spells set rest u → IsBoundary set text (at + length t)
one_further set text front rest t u at code joins h s is r = (
  front ++ code ∷ [],
  rest,
  subst (Spells set (front ++ code ∷ [])) (sym (taken_further text t u at is))
      (joins front (code ∷ []) (take at text) t h
      (subst (Spells set (code ∷ [])) (append-nil t)
      (Spells-cons set code [] t [] s (Spells-none set)))),
  subst (Spells set rest) (sym (dropped_further text t u at is)) r,
)

some_same : {x y : List ℕ} → Some x ≡ Some y → x ≡ y
some_same e = cc

further_within : (text t u : List ℕ) (at : ℕ) → drop at text ≡ t ++ u → 0 < length t →
    at + length t ≤ length text
further_within text t u at is some =
    let size : length (drop at text) ≡ length t + length u = ap length is ∙ length-append t u in
    omega (arith, length-drop at text)

part : (set : Charset) (a b : List ℕ) (start : ℕ) → Joins set → NoneBehind set a b start →
    take start a ≡ take start b → (fa fb ra rb : List ℕ) → Spells set fa (take start a) →
    Spells set fb (take start b) → Spells set ra (drop start a) → Spells set rb (drop start b) →
    PartAtOnce ra rb
part set a b start joins none same fa fb [] rb ha hb ba bb = tt
part set a b start joins none same fa fb (x ∷ xs) [] ha hb ba bb = tt
part set a b start joins none same fa fb (x ∷ xs) (y ∷ ys) ha hb ba bb =
    λ e. let p = split set x xs (drop start a) ba in
    let q = split set y ys (drop start b) bb in
    let s : spell set x ≡ Some q.0 = ap (spell set) e ∙ q.2 in
    let t : p.0 ≡ q.0 = some_same (sym p.2 ∙ s) in
    let first = opens_spelling set x p.0 p.2 in
    let size : length p.0 ≡ suc (length first.1) = ap length first.2 in
    let some : 0 < length p.0 = omega arith in
    let ib : drop start b ≡ p.0 ++ q.1 = q.4 ∙ ap (λ w. w ++ q.1) (sym t) in
    let agree : take (start + length p.0) a ≡ take (start + length p.0) b =
    taken_further a p.0 p.1 start p.4 ∙ ap (λ w. w ++ p.0) same
    ∙ sym (taken_further b p.0 q.1 start ib) in
    none (start + length p.0) (omega arith) (further_within a p.0 p.1 start p.4 some)
    (further_within b p.0 q.1 start ib some) agree
    (one_further set a fa xs p.0 p.1 start x joins ha p.2 p.4 p.3)
    (one_further set b fb ys p.0 q.1 start x joins hb p.2 ib q.3)

-- Where two texts have no more in common, their rests part at once.
pub parts_at_once : (set : Charset) (a b : List ℕ) (start : ℕ) → Joins set →
    ((codes text : List ℕ) → Spells set codes text → chars set text ≡ codes) →
    NoneBehind set a b start → take start a ≡ take start b → IsBoundary set a start →
    IsBoundary set b start → PartAtOnce (chars set (drop start a)) (chars set (drop start b))
parts_at_once set a b start joins decodes none same ba bb =
    rw (decodes ba.1 (drop start a) ba.3, decodes bb.1 (drop start b) bb.3)
    (part set a b start joins none same ba.0 bb.0 ba.1 bb.1 ba.2 bb.2 ba.3 bb.3)
