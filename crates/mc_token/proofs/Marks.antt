-- The mark found is the longest one that begins the bytes.
use Rattle.std.proofs.Common.{◌≡◌, ℕ, ◌≤◌, ◌==◌, Bool, true, false, cond, inl, inr, List, [], ◌∷◌, ◌++◌, Option, Some, None, length, take, drop, get_or, refl, ap, sym, subst, ◌∙◌, arith}
use Rattle.std.proofs.lemmas.Bool.{eqb-true}
use Rattle.std.proofs.lemmas.Option.{same_Some}
use Rattle.std.proofs.Math.Seq.{take-append_seam}
use Rattle.mc_token.specs.Bytes.{is_space, exclamation, percent, left_paren, right_paren, star, plus, comma, dash, dot, slash, less, equals, greater}
use Rattle.mc_token.specs.Marks.{mark_text, IsMark, less_mark, greater_mark, byte_mark, mark_of}
use Rattle.mc_token.specs.declared.lexeme.Symbol.{Symbol}
use Rattle.mc_token.specs.declared.lexeme.Symbol.TheVariants.{LeftParen, RightParen, Comma, Dot, Star, Plus, Minus, Percent, Eq, Ne, NeBang, Lt, Le, Gt, Ge, NullEq}
use Rattle.mc_token.proofs.Choices.{which}
use Rattle.mc_token.proofs.SpelledRuns.{first_of}

-- This mark begins the bytes.
pub record BeginsWith (symbol : Symbol) (bytes : List ℕ) : Type 0 where
  pub behind : List ℕ
  pub bytes_are : bytes ≡ mark_text symbol ++ behind

less-by : (bytes : List ℕ) (b c d : Bool) → (get_or bytes 0 0 == equals) ≡ b
    → (get_or (drop 1 bytes) 0 0 == greater) ≡ c → (get_or bytes 0 0 == greater) ≡ d
    → BeginsWith (cond b (cond c NullEq Le) (cond d Ne Lt)) (less ∷ bytes)
less-by bytes true true d p q r =
    let one = first_of bytes equals (eqb-true (get_or bytes 0 0) equals p) (omega arith) in
    let two = first_of (drop 1 bytes) greater (eqb-true (get_or (drop 1 bytes) 0 0) greater q)
    (omega arith) in
    record {
      behind = drop 1 (drop 1 bytes);
      bytes_are = ap (λ l. less ∷ l) (one ∙ ap (λ l. equals ∷ l) two);
    }
less-by bytes true false d p q r =
    let one = first_of bytes equals (eqb-true (get_or bytes 0 0) equals p) (omega arith) in
    record { behind = drop 1 bytes; bytes_are = ap (λ l. less ∷ l) one }
less-by bytes false c true p q r =
    let one = first_of bytes greater (eqb-true (get_or bytes 0 0) greater r) (omega arith) in
    record { behind = drop 1 bytes; bytes_are = ap (λ l. less ∷ l) one }
less-by bytes false c false p q r = record { behind = bytes; bytes_are = refl }

less-begins : (bytes : List ℕ) → BeginsWith (less_mark bytes) (less ∷ bytes)
less-begins bytes = less-by bytes _ _ _ refl refl refl

greater-by : (bytes : List ℕ) (b : Bool) → (get_or bytes 0 0 == equals) ≡ b
    → BeginsWith (cond b Ge Gt) (greater ∷ bytes)
greater-by bytes true p =
    let one = first_of bytes equals (eqb-true (get_or bytes 0 0) equals p) (omega arith) in
    record { behind = drop 1 bytes; bytes_are = ap (λ l. greater ∷ l) one }
greater-by bytes false p = record { behind = bytes; bytes_are = refl }

bang-by : (bytes : List ℕ) (symbol : Symbol) (b : Bool) → (get_or bytes 0 0 == equals) ≡ b
    → cond b (Some NeBang) None ≡ Some symbol → BeginsWith symbol (exclamation ∷ bytes)
bang-by bytes symbol true p e =
    let one = first_of bytes equals (eqb-true (get_or bytes 0 0) equals p) (omega arith) in
    subst (λ s. BeginsWith s (exclamation ∷ bytes)) (same_Some NeBang symbol e)
    (record { behind = drop 1 bytes; bytes_are = ap (λ l. exclamation ∷ l) one })
bang-by bytes symbol false p e = absurd (cc)

one_byte : (byte code : ℕ) (one symbol : Symbol) → mark_text one ≡ code ∷ []
    → (byte == code) ≡ true → Some one ≡ Some symbol → mark_text symbol ≡ byte ∷ []
one_byte byte code one symbol text test e =
    ap mark_text (sym (same_Some one symbol e)) ∙ text
    ∙ ap (λ b. b ∷ []) (sym (eqb-true byte code test))

byte-text : (byte : ℕ) (symbol : Symbol) → byte_mark byte ≡ Some symbol
    → mark_text symbol ≡ byte ∷ []
byte-text byte symbol e = elim (which (byte == left_paren) _ _ _ e) [
  | inl w ↦ one_byte byte left_paren LeftParen symbol refl w.0 w.1
  | inr w ↦ elim (which (byte == right_paren) _ _ _ w.1) [
    | inl v ↦ one_byte byte right_paren RightParen symbol refl v.0 v.1
    | inr v ↦ elim (which (byte == comma) _ _ _ v.1) [
      | inl u ↦ one_byte byte comma Comma symbol refl u.0 u.1
      | inr u ↦ elim (which (byte == dot) _ _ _ u.1) [
        | inl t ↦ one_byte byte dot Dot symbol refl t.0 t.1
        | inr t ↦ elim (which (byte == star) _ _ _ t.1) [
          | inl s ↦ one_byte byte star Star symbol refl s.0 s.1
          | inr s ↦ elim (which (byte == plus) _ _ _ s.1) [
            | inl r ↦ one_byte byte plus Plus symbol refl r.0 r.1
            | inr r ↦ elim (which (byte == dash) _ _ _ r.1) [
              | inl q ↦ one_byte byte dash Minus symbol refl q.0 q.1
              | inr q ↦ elim (which (byte == percent) _ _ _ q.1) [
                | inl p ↦ one_byte byte percent Percent symbol refl p.0 p.1
                | inr p ↦ elim (which (byte == equals) _ _ _ p.1) [
                  | inl o ↦ one_byte byte equals Eq symbol refl o.0 o.1
                  | inr o ↦ absurd (cc)
                ]
              ]
            ]
          ]
        ]
      ]
    ]
  ]
]

-- The mark found begins the bytes.
pub mark_begins : (first : ℕ) (bytes : List ℕ) (symbol : Symbol)
    → mark_of first bytes ≡ Some symbol → BeginsWith symbol (first ∷ bytes)
unfolding mark_of
mark_begins first bytes symbol e = elim (which (first == less) _ _ _ e) [
  | inl w ↦ subst (λ b. BeginsWith symbol (b ∷ bytes)) (sym (eqb-true first less w.0))
      (subst (λ s. BeginsWith s (less ∷ bytes)) (same_Some (less_mark bytes) symbol w.1)
      (less-begins bytes))
  | inr w ↦ elim (which (first == greater) _ _ _ w.1) [
    | inl v ↦ subst (λ b. BeginsWith symbol (b ∷ bytes)) (sym (eqb-true first greater v.0))
        (subst (λ s. BeginsWith s (greater ∷ bytes)) (same_Some (greater_mark bytes) symbol v.1)
        (greater-by bytes _ refl))
    | inr v ↦ elim (which (first == exclamation) _ _ _ v.1) [
      | inl u ↦ subst (λ b. BeginsWith symbol (b ∷ bytes)) (sym (eqb-true first exclamation u.0))
          (bang-by bytes symbol _ refl u.1)
      | inr u ↦ record {
        behind = bytes;
        bytes_are = ap (λ l. l ++ bytes) (sym (byte-text first symbol u.1));
      }
    ]
  ]
]

-- A mark has a byte or more.
pub some_text : (symbol : Symbol) → 1 ≤ length (mark_text symbol)
some_text LeftParen = omega arith
some_text RightParen = omega arith
some_text Comma = omega arith
some_text Dot = omega arith
some_text Star = omega arith
some_text Plus = omega arith
some_text Minus = omega arith
some_text Percent = omega arith
some_text Eq = omega arith
some_text Ne = omega arith
some_text NeBang = omega arith
some_text Lt = omega arith
some_text Le = omega arith
some_text Gt = omega arith
some_text Ge = omega arith
some_text NullEq = omega arith

-- The mark that bytes begin with.
abbrev pub mark_at : List ℕ → Option Symbol
mark_at [] = None
mark_at (first ∷ bytes) = mark_of first bytes

-- The mark found has so many bytes.
by_len : (found symbol : Symbol) (len : ℕ) → Some found ≡ Some symbol
    → len ≤ length (mark_text found) → len ≤ length (mark_text symbol)
by_len found symbol len e h =
    subst (λ s. len ≤ length (mark_text s)) (same_Some found symbol e) h

two_or_three : (b : Bool) → 2 ≤ length (mark_text (cond b NullEq Le))
two_or_three true = omega arith
two_or_three false = omega arith

longest-by : (other : Symbol) (rest : List ℕ) (symbol : Symbol)
    → mark_at (mark_text other ++ rest) ≡ Some symbol
    → length (mark_text other) ≤ length (mark_text symbol)
unfolding mark_of
longest-by LeftParen rest symbol e = some_text symbol
longest-by RightParen rest symbol e = some_text symbol
longest-by Comma rest symbol e = some_text symbol
longest-by Dot rest symbol e = some_text symbol
longest-by Star rest symbol e = some_text symbol
longest-by Plus rest symbol e = some_text symbol
longest-by Minus rest symbol e = some_text symbol
longest-by Percent rest symbol e = some_text symbol
longest-by Eq rest symbol e = some_text symbol
longest-by Lt rest symbol e = some_text symbol
longest-by Gt rest symbol e = some_text symbol
longest-by Ne rest symbol e = by_len Ne symbol 2 e (omega arith)
longest-by NeBang rest symbol e = by_len NeBang symbol 2 e (omega arith)
longest-by Ge rest symbol e = by_len Ge symbol 2 e (omega arith)
longest-by Le rest symbol e =
    by_len (cond (get_or rest 0 0 == greater) NullEq Le) symbol 2 e
    (two_or_three (get_or rest 0 0 == greater))
longest-by NullEq rest symbol e = by_len NullEq symbol 3 e (omega arith)

-- No mark that begins the bytes is longer than the one found.
pub mark_longest : (first : ℕ) (bytes : List ℕ) (symbol : Symbol)
    → mark_of first bytes ≡ Some symbol → (other : Symbol) (rest : List ℕ)
    → first ∷ bytes ≡ mark_text other ++ rest
    → length (mark_text other) ≤ length (mark_text symbol)
mark_longest first bytes symbol e other rest same =
    longest-by other rest symbol (ap mark_at (sym same) ∙ e)

text-mark : (symbol : Symbol) → mark_at (mark_text symbol) ≡ Some symbol
unfolding mark_of
text-mark LeftParen = refl
text-mark RightParen = refl
text-mark Comma = refl
text-mark Dot = refl
text-mark Star = refl
text-mark Plus = refl
text-mark Minus = refl
text-mark Percent = refl
text-mark Eq = refl
text-mark Ne = refl
text-mark NeBang = refl
text-mark Lt = refl
text-mark Le = refl
text-mark Gt = refl
text-mark Ge = refl
text-mark NullEq = refl

-- Some mark is found where one begins the bytes.
some-mark : (symbol : Symbol) (behind : List ℕ)
    → (found : Symbol) × (mark_at (mark_text symbol ++ behind) ≡ Some found)
unfolding mark_of
some-mark LeftParen behind = (LeftParen, refl)
some-mark RightParen behind = (RightParen, refl)
some-mark Comma behind = (Comma, refl)
some-mark Dot behind = (Dot, refl)
some-mark Star behind = (Star, refl)
some-mark Plus behind = (Plus, refl)
some-mark Minus behind = (Minus, refl)
some-mark Percent behind = (Percent, refl)
some-mark Eq behind = (Eq, refl)
some-mark Ne behind = (Ne, refl)
some-mark NeBang behind = (NeBang, refl)
some-mark Lt behind = (less_mark behind, refl)
some-mark Le behind = (less_mark (equals ∷ behind), refl)
some-mark Gt behind = (greater_mark behind, refl)
some-mark Ge behind = (Ge, refl)
some-mark NullEq behind = (NullEq, refl)

-- A mark with its first byte, which is neither a space nor a slash.
pub record MarkFirst (symbol : Symbol) : Type 0 where
  pub first : ℕ
  pub others : List ℕ
  pub text_is : mark_text symbol ≡ first ∷ others
  pub no_space : is_space first ≡ false
  pub no_slash : (first == slash) ≡ false

abbrev mark_with : (symbol : Symbol) (first : ℕ) (others : List ℕ)
    → mark_text symbol ≡ first ∷ others → is_space first ≡ false → (first == slash) ≡ false
    → MarkFirst symbol
mark_with symbol first others p q r =
    record { first = first; others = others; text_is = p; no_space = q; no_slash = r }

pub mark_first : (symbol : Symbol) → MarkFirst symbol
mark_first LeftParen = mark_with LeftParen left_paren [] refl refl refl
mark_first RightParen = mark_with RightParen right_paren [] refl refl refl
mark_first Comma = mark_with Comma comma [] refl refl refl
mark_first Dot = mark_with Dot dot [] refl refl refl
mark_first Star = mark_with Star star [] refl refl refl
mark_first Plus = mark_with Plus plus [] refl refl refl
mark_first Minus = mark_with Minus dash [] refl refl refl
mark_first Percent = mark_with Percent percent [] refl refl refl
mark_first Eq = mark_with Eq equals [] refl refl refl
mark_first Ne = mark_with Ne less (greater ∷ []) refl refl refl
mark_first NeBang = mark_with NeBang exclamation (equals ∷ []) refl refl refl
mark_first Lt = mark_with Lt less [] refl refl refl
mark_first Le = mark_with Le less (equals ∷ []) refl refl refl
mark_first Gt = mark_with Gt greater [] refl refl refl
mark_first Ge = mark_with Ge greater (equals ∷ []) refl refl refl
mark_first NullEq = mark_with NullEq less (equals ∷ greater ∷ []) refl refl refl

-- Two marks of one length that begin the same bytes are one.
one-mark : (one other : Symbol) (left right : List ℕ)
    → mark_text one ++ left ≡ mark_text other ++ right
    → length (mark_text one) ≡ length (mark_text other) → one ≡ other
one-mark one other left right same len =
    let text : mark_text one ≡ mark_text other = sym (take-append_seam (mark_text one) left)
    ∙ ap (λ l. take (length (mark_text one)) l) same
    ∙ ap (λ n. take n (mark_text other ++ right)) len
    ∙ take-append_seam (mark_text other) right in
    same_Some one other (sym (text-mark one) ∙ ap mark_at text ∙ text-mark other)

same_len : (m n : ℕ) → m ≤ n → n ≤ m → m ≡ n
same_len m n h k = omega (arith, h, k)

-- The mark is the one found before what is behind it.
pub mark_is : (symbol : Symbol) (taken behind : List ℕ) → IsMark symbol taken behind
    → mark_at (mark_text symbol ++ behind) ≡ Some symbol
mark_is symbol taken behind h =
    let m = mark_first symbol in
    let f = some-mark symbol behind in
    let whole : mark_text symbol ++ behind ≡ m.first ∷ (m.others ++ behind) =
    ap (λ l. l ++ behind) m.text_is in
    let found : mark_of m.first (m.others ++ behind) ≡ Some f.0 =
    ap mark_at (sym whole) ∙ f.1 in
    let b = mark_begins m.first (m.others ++ behind) f.0 found in
    let begins : mark_text symbol ++ behind ≡ mark_text f.0 ++ b.behind = whole ∙ b.bytes_are in
    let shorter = h.longest f.0 b.behind (ap (λ l. l ++ behind) h.taken_is ∙ begins) in
    let longer = mark_longest m.first (m.others ++ behind) f.0 found symbol behind (sym whole) in
    let one = one-mark symbol f.0 behind b.behind begins
    (same_len (length (mark_text symbol)) (length (mark_text f.0)) longer shorter) in
    f.1 ∙ ap (λ s. Some s) (sym one)
