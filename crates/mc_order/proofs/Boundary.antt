-- Characters begin where `may_begin` says so, or a text ends.
use Rattle.std.proofs.Common.{◌≡◌, ◌⊎◌, ℕ, zero, suc, ◌+◌, ◌-◌, ◌*◌, ◌/◌, ◌%◌, ◌<◌, ◌≤◌, ◌==◌, ◌&&◌, ◌||◌, nat_lt, nat_le, Bool, true, false, not, List, [], ◌∷◌, ◌++◌, Option, Some, None, get_or, length-append, take_all, length, take, drop, refl, sym, ap, subst, ◌∙◌, inl, inr, ⊎_elim, arith}
use Rattle.std.specs.Prelude.{option_and_then}
use Rattle.std.proofs.lemmas.Bool.{cases_lt}
use Rattle.std.proofs.lemmas.List.{take-append-drop, take-take, drop_all, get_or_append_left, get_or-append_right}
use Rattle.std.proofs.lemmas.Bool.Decides.{nat_tests}
use Rattle.std.proofs.Math.Nat.{div-lt_iff_lt-mul}
use Rattle.mc_charset.specs.declared.charset.Charset.{Charset}
use Rattle.mc_charset.specs.declared.charset.Charset.TheVariants.{Latin1, Ascii, Utf8mb3, Utf8mb4, Ucs2, Utf16, Utf32, Binary}
use Rattle.mc_charset.specs.Rows.{Range, count, sequence}
use Rattle.mc_charset.specs.Tables.{rows}
use Rattle.mc_charset.specs.Chars.{spell, spell_all, chars, Spells}
use Rattle.mc_order.specs.Spelling.{all_rows, spelling_row}
use Rattle.mc_order.specs.Boundary.{IsBoundary, SharesFront, may_begin}

-- No byte of the range begins a spelling at this place.
abbrev never : Charset → ℕ → Range → Bool
never Utf8mb3 at r = nat_le 0x80 r.least && nat_le r.greatest 0xBF
never Utf8mb4 at r = nat_le 0x80 r.least && nat_le r.greatest 0xBF
never Ucs2 at r = not (at % 2 == 0)
never Utf16 at r = not (at % 2 == 0) || (nat_le 0xDC r.least && nat_le r.greatest 0xDF)
never Utf32 at r = not (at % 4 == 0)
never Latin1 at r = false
never Ascii at r = false
never Binary at r = false

abbrev inner : Charset → ℕ → List Range → Bool
inner set at [] = true
inner set at (r ∷ rs) = nat_le r.least r.greatest && never set at r && inner set (at + 1) rs

-- So many bytes leave what may begin behind them as it is.
abbrev shifts : Charset → ℕ → Bool
shifts Ucs2 n = n == 2
shifts Utf16 n = (n == 2) || (n == 4)
shifts Utf32 n = n == 4
shifts _ n = true

abbrev closed : Charset → List Range → Bool
closed set [] = false
closed set (r ∷ rs) = inner set 1 rs && shifts set (length (r ∷ rs))

all_closed : (set : Charset) → all_rows (closed set) (rows set) ≡ true
all_closed Latin1 = refl
all_closed Ascii = refl
all_closed Utf8mb3 = refl
all_closed Utf8mb4 = refl
all_closed Ucs2 = refl
all_closed Utf16 = refl
all_closed Utf32 = refl
all_closed Binary = refl

never_begins : (set : Charset) (at : ℕ) (r : Range) (byte : ℕ) → never set at r ≡ true →
    r.least ≤ byte → byte ≤ r.greatest → may_begin set at byte ≡ false
never_begins Utf8mb3 at r byte e l g = grind (arith, nat_tests)
never_begins Utf8mb4 at r byte e l g = grind (arith, nat_tests)
never_begins Ucs2 at r byte e l g = grind (arith, nat_tests)
never_begins Utf16 at r byte e l g = grind (arith, nat_tests)
never_begins Utf32 at r byte e l g = grind (arith, nat_tests)
never_begins Latin1 at r byte e l g = absurd cc
never_begins Ascii at r byte e l g = absurd cc
never_begins Binary at r byte e l g = absurd cc

two_or_four : (n at : ℕ) → shifts Utf16 n ≡ true → (n + at) % 2 ≡ at % 2
two_or_four n at e = let is : (n ≡ 2) ⊎ (n ≡ 4) =
    grind (arith, nat_tests) in ⊎_elim (λ two. rw two (omega arith)) (λ four. rw four
    (omega arith)) is

pub shifted : (set : Charset) (n at byte : ℕ) → shifts set n ≡ true →
    may_begin set (n + at) byte ≡ may_begin set at byte
shifted Utf8mb3 n at byte e = refl
shifted Utf8mb4 n at byte e = refl
shifted Ucs2 n at byte e = let is : n ≡ 2 =
    grind (arith, nat_tests) in let m : (n + at) % 2 ≡ at % 2 =
    rw is (omega arith) in ap (λ k. k == 0) m
shifted Utf16 n at byte e = let m : (n + at) % 2 ≡ at % 2 =
    two_or_four n at e in ap (λ k. (k == 0) && (nat_lt byte 0xDC || nat_lt 0xDF byte)) m
shifted Utf32 n at byte e = let is : n ≡ 4 =
    grind (arith, nat_tests) in let m : (n + at) % 4 ≡ at % 4 =
    rw is (omega arith) in ap (λ k. k == 0) m
shifted Latin1 n at byte e = refl
shifted Ascii n at byte e = refl
shifted Binary n at byte e = refl

pub positive_count : (a b n : ℕ) → n < a * b → 0 < b
positive_count a zero n l = absurd (omega arith)
positive_count a (suc b) n l = omega arith

pub quotient_below : (n a b : ℕ) → 0 < b → n < a * b → n / b < a
quotient_below n a b some l = grind (arith, div-lt_iff_lt-mul)

pub plus_none : (at : ℕ) → at + 0 ≡ at
plus_none at = omega arith

plus_one : (at i : ℕ) → at + suc i ≡ at + 1 + i
plus_one at i = omega arith

one_plus : (i : ℕ) → suc i ≡ 1 + i
one_plus i = omega arith

sequence_length : (rs : List Range) (n : ℕ) → length (sequence rs n) ≡ length rs
sequence_length [] n = refl
sequence_length (r ∷ rs) n = ap suc (sequence_length rs (n % count rs))

-- A byte inside a spelling begins none.
inside : (set : Charset) (at : ℕ) (rs : List Range) (n i : ℕ) → inner set at rs ≡ true →
    n < count rs →
    i < length (sequence rs n) → may_begin set (at + i) (get_or (sequence rs n) i 0) ≡ false
inside set at [] n i e l below = absurd (omega arith)
inside set at (r ∷ rs) n zero e l below =
    let size : 0 < count rs = positive_count (r.greatest + 1 - r.least) (count rs) n l in
    let q : n / count rs < r.greatest + 1 - r.least =
    quotient_below n (r.greatest + 1 - r.least) (count rs) size l in
    let first : may_begin set at (r.least + n / count rs) ≡ false =
    never_begins set at r (r.least + n / count rs) (grind (arith, nat_tests)) (omega arith)
    (omega arith) in
    ap (λ k. may_begin set k (r.least + n / count rs)) (plus_none at) ∙ first
inside set at (r ∷ rs) n (suc i) e l below =
    let size : 0 < count rs = positive_count (r.greatest + 1 - r.least) (count rs) n l in
    ap (λ k. may_begin set k (get_or (sequence rs (n % count rs)) i 0)) (plus_one at i)
    ∙ inside set (at + 1) rs (n % count rs) i (grind (arith, nat_tests)) (omega arith) (omega arith)

inner_at : (set : Charset) (rs : List Range) (n first i : ℕ) → inner set 1 rs ≡ true →
    n < count rs → 0 < i →
    i < length (first ∷ sequence rs n) →
    may_begin set i (get_or (first ∷ sequence rs n) i 0) ≡ false
inner_at set rs n first zero e l some below = absurd (omega arith)
inner_at set rs n first (suc i) e l some below =
    ap (λ k. may_begin set k (get_or (sequence rs n) i 0)) (one_plus i) ∙ inside set 1 rs n i e l
    (omega arith)

-- Inside a spelling of the set none begins, and behind one all is as before.
abbrev IsClosed : Charset → List ℕ → Type 0
IsClosed set front =
    ((i : ℕ) → 0 < i → i < length front → may_begin set i (get_or front i 0) ≡ false)
    × ((at byte : ℕ) → may_begin set (length front + at) byte ≡ may_begin set at byte)

closed_sequence : (set : Charset) (rs : List Range) (n : ℕ) → closed set rs ≡ true →
    n < count rs → IsClosed set (sequence rs n)
closed_sequence set [] n e l = absurd cc
closed_sequence set (r ∷ rs) n e l =
    let size : 0 < count rs = positive_count (r.greatest + 1 - r.least) (count rs) n l in (
      (λ i some below. inner_at set rs (n % count rs) (r.least + n / count rs) i (grind
          (arith, nat_tests)) (omega arith) some below),
      (λ at byte. shifted set (length (sequence (r ∷ rs) n)) at byte (rw (sequence_length
          (r ∷ rs) n) (grind (arith, nat_tests)))),
    )

pub closed_spelling : (set : Charset) (code : ℕ) (front : List ℕ) → spell set code ≡ Some front →
    IsClosed set front
closed_spelling set code front s =
    let h = spelling_row set (closed set) code front (all_closed set) s in
    let P : List ℕ → Type 0 = IsClosed set in
    subst P (sym h.3) (closed_sequence set h.0 h.1 h.4 h.2)

suc_plus : (n j : ℕ) → suc n + j ≡ suc (n + j)
suc_plus n j = omega arith

none_plus : (j : ℕ) → 0 + j ≡ j
none_plus j = omega arith

take_past : (t u : List ℕ) (j : ℕ) → take (length t + j) (t ++ u) ≡ t ++ take j u
take_past [] u j = ap (λ k. take k u) (none_plus j)
take_past (x ∷ t) u j =
    ap (λ k. take k (x ∷ (t ++ u))) (suc_plus (length t) j) ∙ ap (λ r. x ∷ r) (take_past t u j)

drop_past : (t u : List ℕ) (j : ℕ) → drop (length t + j) (t ++ u) ≡ drop j u
drop_past [] u j = ap (λ k. drop k u) (none_plus j)
drop_past (x ∷ t) u j = ap (λ k. drop k (x ∷ (t ++ u))) (suc_plus (length t) j) ∙ drop_past t u j

-- A text of characters: the first one's spelling, and that of the rest.
abbrev pub IsSplit : Charset → ℕ → List ℕ → List ℕ → Type 0
IsSplit set code codes text =
    (t : List ℕ) × (u : List ℕ) × (spell set code ≡ Some t) × Spells set codes u × (text ≡ t ++ u)

split_options : (first rest : Option (List ℕ)) (text : List ℕ) →
    option_and_then (λ f. option_and_then (λ r. Some (f ++ r)) rest) first ≡ Some text →
    (t : List ℕ) × (u : List ℕ) × (first ≡ Some t) × (rest ≡ Some u) × (text ≡ t ++ u)
split_options None rest text h = absurd cc
split_options (Some f) None text h = absurd cc
split_options (Some f) (Some r) text h = (f, r, refl, refl, cc)

pub split : (set : Charset) (code : ℕ) (codes text : List ℕ) → Spells set (code ∷ codes) text →
    IsSplit set code codes text
unfolding spell_all
split set code codes text h = split_options (spell set code) (spell_all set codes) text h

pub Spells-cons : (set : Charset) (code : ℕ) (codes t u : List ℕ) → spell set code ≡ Some t →
    Spells set codes u → Spells set (code ∷ codes) (t ++ u)
unfolding spell_all
Spells-cons set code codes t u s r = rw (s, r) refl

pub Spells-none : (set : Charset) → Spells set [] []
unfolding spell_all
Spells-none set = refl

pub nothing_spelled : (set : Charset) (text : List ℕ) → Spells set [] text → text ≡ []
unfolding spell_all
nothing_spelled set text h = cc

at_start : (set : Charset) (codes text : List ℕ) → Spells set codes text → IsBoundary set text 0
at_start set codes text h = ([], codes, Spells-none set, h)

pub at_end : (set : Charset) (codes text : List ℕ) (at : ℕ) → Spells set codes text →
    at ≡ length text → IsBoundary set text at
at_end set codes text at h e = (
  codes,
  [],
  rw (take_all at text (omega arith)) h,
  rw (drop_all at text (omega arith))
      (Spells-none set),
)

further : (set : Charset) (code : ℕ) (t u : List ℕ) (at j : ℕ) → spell set code ≡ Some t →
    at ≡ length t + j → IsBoundary set u j → IsBoundary set (t ++ u) at
further set code t u at j s e b = (
  code ∷ b.0,
  b.1,
  rw (e, take_past t u j) (Spells-cons set code b.0 t (take j u) s b.2),
  rw (e, drop_past t u j) b.3,
)

zero_or : (n : ℕ) → (n ≡ 0) ⊎ (0 < n)
zero_or zero = inl refl
zero_or (suc n) = inr (omega arith)

-- Where a spelling may begin, characters end and begin.
at_begin : (set : Charset) (codes text : List ℕ) (at : ℕ) → Spells set codes text →
    at < length text → may_begin set at (get_or text at 0) ≡ true → IsBoundary set text at
at_begin set [] text at h below begins = let e =
    ap length (nothing_spelled set text h) in absurd (omega arith)
at_begin set (code ∷ codes) text at h below begins =
    let p = split set code codes text h in
    let t = p.0 in let u = p.1 in
    let closed_t = closed_spelling set code t p.2 in
    let whole : text ≡ t ++ u = p.4 in
    let Q : List ℕ → Type 0 = λ x. IsBoundary set x at in
    let size : length text ≡ length t + length u = ap length whole ∙ length-append t u in
    ⊎_elim
    (λ short. ⊎_elim
    (λ none. rw none (at_start set (code ∷ codes) text h))
    (λ some. let f : may_begin set at (get_or text at 0) ≡ false =
    ap (λ x. may_begin set at (get_or x at 0)) whole ∙ ap (may_begin set at)
    (get_or_append_left t u 0 at short) ∙ closed_t.0 at some short in absurd
    (let x : true ≡ false = sym begins ∙ f in cc))
    (zero_or at))
    (λ long. let at_is : at ≡ length t + (at - length t) = omega arith in
    let byte : get_or text at 0 ≡ get_or u (at - length t) 0 =
    ap (λ x. get_or x at 0) whole ∙ get_or-append_right t u (length t) at 0 refl long in
    let b : may_begin set (at - length t) (get_or u (at - length t) 0) ≡ true =
    sym (closed_t.1 (at - length t) (get_or u (at - length t) 0)) ∙ sym (ap
    (λ k. may_begin set k (get_or u (at - length t) 0)) at_is) ∙ sym (ap
    (may_begin set at) byte) ∙ begins in
    subst Q (sym whole) (further set code t u at (at - length t) p.2 at_is
    (at_begin set codes u (at - length t) p.3 (omega arith) b)))
    (cases_lt at (length t))

pub at_known : (set : Charset) (codes text : List ℕ) (at : ℕ) → Spells set codes text →
    at ≤ length text → (at ≡ 0) ⊎ ((at ≡ length text) ⊎ (may_begin set at
    (get_or text at 0) ≡ true)) → IsBoundary set text at
at_known set codes text at h within known =
    ⊎_elim (λ none. rw none (at_start set codes text h))
    (λ more. ⊎_elim (λ all. at_end set codes text at h all)
    (λ begins. ⊎_elim (λ below. at_begin set codes text at h below begins)
    (λ past. at_end set codes text at h (omega arith)) (cases_lt at (length text))) more)
    known

-- The two texts share their characters before a place where both have some end, where their bytes agree.
pub shares_front : (set : Charset) (a b : List ℕ) (at : ℕ) →
    ((codes others text : List ℕ) → Spells set codes text → Spells set others text →
    codes ≡ others) →
    ((codes text : List ℕ) → Spells set codes text → chars set text ≡ codes) →
    ((codes more text rest : List ℕ) → Spells set codes text → Spells set more rest →
    Spells set (codes ++ more) (text ++ rest)) →
    take at a ≡ take at b → IsBoundary set a at → IsBoundary set b at → SharesFront set a b at
shares_front set a b at one decodes joins same ba bb =
    let joined_a : Spells set (ba.0 ++ ba.1) a =
    rw take-append-drop at (joins ba.0 ba.1 (take at a) (drop at a) ba.2 ba.3) in
    let joined_b : Spells set (bb.0 ++ bb.1) b =
    rw take-append-drop at (joins bb.0 bb.1 (take at b) (drop at b) bb.2 bb.3) in
    let front : bb.0 ≡ ba.0 = one bb.0 ba.0 (take at b) bb.2 (rw (← same) ba.2) in (
      ba.0,
      decodes (ba.0 ++ ba.1) a joined_a ∙ ap (λ r. ba.0 ++ r) (sym (decodes ba.1 (drop at a) ba.3)),
      decodes (bb.0 ++ bb.1) b joined_b ∙ ap (λ f. f ++ bb.1) front ∙ ap (λ r. ba.0 ++ r) (sym
          (decodes bb.1 (drop at b) bb.3)),
      ba.2,
      rw (← same) ba.2,
    )

pub take_fewer : (a b : List ℕ) (n m : ℕ) → take n a ≡ take n b → m ≤ n → take m a ≡ take m b
take_fewer a b n m e l = sym (take-take m n a l) ∙ ap (take m) e ∙ take-take m n b l
