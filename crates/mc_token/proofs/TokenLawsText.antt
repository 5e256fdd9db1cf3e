-- The text of a string is UTF-8, where what stands between its quotes is.
use Rattle.std.proofs.Common.{◌≡◌, ℕ, ◌<◌, ◌≤◌, ◌==◌, ◌&&◌, ◌||◌, Bool, true, false, cond, List, [], ◌∷◌, ◌++◌, length, get_or, suc, zero, refl, ap, sym, subst, ◌∙◌, ⊎_elim, true≢false, append-nil, arith}
use Rattle.std.specs.Str.{IsUtf8, all_scalars, encode_utf8_all}
use Rattle.std.specs.Char.{encode_utf8}
use Rattle.std.proofs.lemmas.Bool.{cases_lt}
use Rattle.std.proofs.lemmas.Bool.Decides.{nat_tests}
use Rattle.std.proofs.lemmas.Str.{IsUtf8-nil, IsUtf8-append, IsUtf8-from_ascii, encode_ascii, inside_one, length-encode, len_utf8_bounds}
use Rattle.std.proofs.lemmas.Str.Ascii.{IsAscii-cons}
use Rattle.mc_token.specs.Bytes.{backslash}
use Rattle.mc_token.specs.Lexemes.{escaped, pair, content}

-- Characters of several bytes

-- No byte is ASCII.
AreHigh : List ℕ → Type 0
AreHigh bytes = (k : ℕ) → k < length bytes → 128 ≤ get_or bytes k 0

encode-high : (c : ℕ) → 128 ≤ c → AreHigh (encode_utf8 c)
unfolding AreHigh
encode-high c high k within = ⊎_elim
    (λ low.
    let same = inside_one c [] (encode_utf8 c) k (sym (append-nil (encode_utf8 c))) within low in
    absurd (omega (arith, same)))
    (λ h. h)
    (cases_lt (get_or (encode_utf8 c) k 0) 128)

high-head : (byte : ℕ) (behind : List ℕ) → AreHigh (byte ∷ behind) → 128 ≤ byte
unfolding AreHigh
high-head byte behind high = high zero (omega arith)

high-tail : (byte : ℕ) (behind : List ℕ) → AreHigh (byte ∷ behind) → AreHigh behind
unfolding AreHigh
high-tail byte behind high k within = high (suc k) (omega arith)

-- The two bytes are an escape or a doubled quote.
abbrev is_pair : ℕ → ℕ → ℕ → Bool
is_pair quote byte next = byte == backslash || (byte == quote && next == quote)

content-alone : (quote byte next : ℕ) (behind : List ℕ) → is_pair quote byte next ≡ false
    → content quote (byte ∷ next ∷ behind) ≡ byte ∷ content quote (next ∷ behind)
unfolding content
content-alone quote byte next behind alone = rw alone

content-pair : (quote byte next : ℕ) (behind : List ℕ) → is_pair quote byte next ≡ true
    → content quote (byte ∷ next ∷ behind) ≡ pair byte next ++ content quote behind
unfolding content
content-pair quote byte next behind both = rw both

content-last : (quote byte : ℕ) → content quote (byte ∷ []) ≡ byte ∷ content quote []
unfolding content
content-last quote byte = refl

high-alone : (quote byte next : ℕ) → quote < 128 → 128 ≤ byte → is_pair quote byte next ≡ false
high-alone quote byte next q high = grind (arith, nat_tests)

-- Bytes above ASCII stand for themselves.
content-high : (quote byte : ℕ) (behind : List ℕ) → quote < 128 → 128 ≤ byte
    → content quote (byte ∷ behind) ≡ byte ∷ content quote behind
content-high quote byte [] q high = content-last quote byte
content-high quote byte (next ∷ behind) q high =
    content-alone quote byte next behind (high-alone quote byte next q high)

content-front : (quote : ℕ) (front rest : List ℕ) → quote < 128 → AreHigh front
    → content quote (front ++ rest) ≡ front ++ content quote rest
content-front quote [] rest q high = refl
content-front quote (byte ∷ front) rest q high =
    content-high quote byte (front ++ rest) q (high-head byte front high)
    ∙ ap (λ text. byte ∷ text) (content-front quote front rest q (high-tail byte front high))

-- ASCII characters

ascii-utf8 : (byte : ℕ) → byte < 128 → IsUtf8 (byte ∷ [])
ascii-utf8 byte low = IsUtf8-from_ascii (byte ∷ []) (IsAscii-cons byte [] low (λ i. omega arith))

cond-utf8 : (test : Bool) (this that : List ℕ) → IsUtf8 this → IsUtf8 that
    → IsUtf8 (cond test this that)
cond-utf8 true this that first second = first
cond-utf8 false this that first second = second

escaped-utf8 : (byte : ℕ) → byte < 128 → IsUtf8 (escaped byte)
escaped-utf8 byte low =
    cond-utf8 (byte == 0x30) _ _ (ascii-utf8 0x00 (omega arith))
    (cond-utf8 (byte == 0x62) _ _ (ascii-utf8 0x08 (omega arith))
    (cond-utf8 (byte == 0x6E) _ _ (ascii-utf8 0x0A (omega arith))
    (cond-utf8 (byte == 0x72) _ _ (ascii-utf8 0x0D (omega arith))
    (cond-utf8 (byte == 0x74) _ _ (ascii-utf8 0x09 (omega arith))
    (cond-utf8 (byte == 0x5A) _ _ (ascii-utf8 0x1A (omega arith))
    (cond-utf8 (byte == 0x25 || byte == 0x5F) _ _
    (IsUtf8-append (backslash ∷ []) (byte ∷ [])
    (ascii-utf8 backslash (omega arith)) (ascii-utf8 byte low))
    (ascii-utf8 byte low)))))))

pair-utf8 : (byte next : ℕ) → byte < 128 → next < 128 → IsUtf8 (pair byte next)
unfolding pair
pair-utf8 byte next low next_low =
    cond-utf8 (byte == backslash) (escaped next) (byte ∷ [])
    (escaped-utf8 next next_low) (ascii-utf8 byte low)

-- A pair that a byte above ASCII ends is an escape, which stands for that byte.
pair-high : (quote byte next : ℕ) → quote < 128 → 128 ≤ next → is_pair quote byte next ≡ true
    → pair byte next ≡ next ∷ []
unfolding pair
pair-high quote byte next q high both = grind (arith, nat_tests)

-- The text of a string, by its first characters

-- What these bytes stand for between the quotes is UTF-8.
abbrev IsGood : ℕ → List ℕ → Type 0
IsGood quote bytes = IsUtf8 (content quote bytes)

good-by : (quote : ℕ) (bytes part rest : List ℕ) → content quote bytes ≡ part ++ content quote rest
    → IsUtf8 part → IsGood quote rest → IsGood quote bytes
good-by quote bytes part rest same utf8 good =
    subst IsUtf8 (sym same) (IsUtf8-append part (content quote rest) utf8 good)

good-nil : (quote : ℕ) → IsGood quote []
unfolding content
good-nil quote = IsUtf8-nil

-- an ASCII character before another one
good-low : (quote byte next : ℕ) (rest : List ℕ) (both : Bool) → is_pair quote byte next ≡ both
    → byte < 128 → next < 128 → IsGood quote (next ∷ rest) → IsGood quote rest
    → IsGood quote (byte ∷ next ∷ rest)
good-low quote byte next rest true p low next_low one two =
    good-by quote (byte ∷ next ∷ rest) (pair byte next) rest
    (content-pair quote byte next rest p) (pair-utf8 byte next low next_low) two
good-low quote byte next rest false p low next_low one two =
    good-by quote (byte ∷ next ∷ rest) (byte ∷ []) (next ∷ rest)
    (content-alone quote byte next rest p) (ascii-utf8 byte low) one

-- an ASCII character before one of several bytes
good-high : (quote byte next : ℕ) (more rest : List ℕ) (both : Bool)
    → is_pair quote byte next ≡ both
    → quote < 128 → byte < 128 → AreHigh (next ∷ more) → IsUtf8 (next ∷ more)
    → IsGood quote (next ∷ (more ++ rest)) → IsGood quote rest
    → IsGood quote (byte ∷ next ∷ (more ++ rest))
good-high quote byte next more rest true p q low high utf8 one two =
    let escape = pair-high quote byte next q (high-head next more high) p in
    let behind = content-front quote more rest q (high-tail next more high) in
    let same = content-pair quote byte next (more ++ rest) p
    ∙ ap (λ front. front ++ content quote (more ++ rest)) escape
    ∙ ap (λ text. next ∷ text) behind in
    good-by quote (byte ∷ next ∷ (more ++ rest)) (next ∷ more) rest same utf8 two
good-high quote byte next more rest false p q low high utf8 one two =
    good-by quote (byte ∷ next ∷ (more ++ rest)) (byte ∷ []) (next ∷ (more ++ rest))
    (content-alone quote byte next (more ++ rest) p) (ascii-utf8 byte low) one

good-several : (quote byte : ℕ) (bytes rest : List ℕ) → quote < 128 → byte < 128 → 0 < length bytes
    → AreHigh bytes → IsUtf8 bytes
    → IsGood quote (bytes ++ rest) → IsGood quote rest → IsGood quote (byte ∷ (bytes ++ rest))
good-several quote byte [] rest q low some high utf8 one two = absurd (omega arith)
good-several quote byte (next ∷ more) rest q low some high utf8 one two =
    good-high quote byte next more rest (is_pair quote byte next) refl q low high utf8 one two

char-utf8 : (c : ℕ) → all_scalars (c ∷ []) ≡ true → IsUtf8 (encode_utf8 c)
char-utf8 c scalar = (c ∷ [], (scalar, append-nil (encode_utf8 c)))

-- an ASCII character before any other
good-ascii : (quote c d : ℕ) (rest : List ℕ) → quote < 128 → c < 128 → all_scalars (d ∷ []) ≡ true
    → IsGood quote (encode_utf8 d ++ rest) → IsGood quote rest
    → IsGood quote (c ∷ (encode_utf8 d ++ rest))
good-ascii quote c d rest q low scalar one two = ⊎_elim
    (λ next_low.
    let same = encode_ascii d next_low in
    subst (λ bytes. IsGood quote (c ∷ (bytes ++ rest))) (sym same)
    (good-low quote c d rest (is_pair quote c d) refl low next_low
    (subst (λ bytes. IsGood quote (bytes ++ rest)) same one) two))
    (λ high. good-several quote c (encode_utf8 d) rest q low
    (omega (arith, length-encode d, len_utf8_bounds d))
    (encode-high d high) (char-utf8 d scalar) one two)
    (cases_lt d 128)

good-last : (quote c : ℕ) → c < 128 → IsGood quote (c ∷ [])
good-last quote c low =
    good-by quote (c ∷ []) (c ∷ []) []
    (content-last quote c) (ascii-utf8 c low) (good-nil quote)

-- a first character, if what is behind it is good where it is ASCII
good-first : (quote c : ℕ) (rest : List ℕ) → quote < 128 → all_scalars (c ∷ []) ≡ true
    → (c < 128 → IsGood quote (c ∷ rest)) → IsGood quote rest → IsGood quote (encode_utf8 c ++ rest)
good-first quote c rest q scalar ascii good = ⊎_elim
    (λ low. subst (λ bytes. IsGood quote (bytes ++ rest)) (sym (encode_ascii c low)) (ascii low))
    (λ high. good-by quote (encode_utf8 c ++ rest) (encode_utf8 c) rest
    (content-front quote (encode_utf8 c) rest q (encode-high c high)) (char-utf8 c scalar) good)
    (cases_lt c 128)

scalars-both : (first rest : Bool) → (first && rest) ≡ true
    → ((first && true) ≡ true) × (rest ≡ true)
scalars-both true rest e = (refl, e)
scalars-both false rest e = absurd (true≢false (sym e))

good : (quote : ℕ) (cs : List ℕ) → quote < 128 → all_scalars cs ≡ true
    → IsGood quote (encode_utf8_all cs)
good quote [] q scalars = good-nil quote
good quote (c ∷ []) q scalars = good-first quote c [] q scalars (good-last quote c) (good-nil quote)
good quote (c ∷ d ∷ cs) q scalars =
    let first = scalars-both _ (all_scalars (d ∷ cs)) scalars in
    let second = scalars-both _ (all_scalars cs) first.1 in
    let one = good quote (d ∷ cs) q first.1 in
    good-first quote c (encode_utf8_all (d ∷ cs)) q first.0
    (λ low. good-ascii quote c d (encode_utf8_all cs) q low second.0 one (good quote cs q second.1))
    one

-- What UTF-8 stands for between the quotes is UTF-8.
pub content-utf8 : (quote : ℕ) (bytes : List ℕ) → quote < 128 → IsUtf8 bytes
    → IsUtf8 (content quote bytes)
content-utf8 quote bytes q utf8 = subst (IsGood quote) utf8.1.1 (good quote utf8.0 q utf8.1.0)
