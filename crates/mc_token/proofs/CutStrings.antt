-- Where a string ends: behind its content, at a quote that isn't doubled.
use Rattle.std.proofs.Common.{◌≡◌, ◌≢◌, ℕ, ◌+◌, ◌==◌, ◌&&◌, ◌||◌, not, Bool, true, false, ◌⊎◌, inl, inr, List, [], ◌∷◌, ◌++◌, length, Some, refl, ap, sym, ◌∙◌, arith}
use Rattle.std.proofs.lemmas.Bool.{eqb-true, eqb-false}
use Rattle.mc_token.specs.Bytes.{backslash}
use Rattle.mc_token.specs.Elements.{quote_end}
use Rattle.mc_token.specs.Comments.{EndOr}
use Rattle.mc_token.specs.Strings.{IsPlain, IsPair, IsContent}
use Rattle.mc_token.proofs.Choices.{which}
use Rattle.mc_token.proofs.CutParts.{is_equal, is_other}

-- The content of these bytes, which begin at a place, and what is behind its quote.
pub record StringCloses (quote at : ℕ) (bytes : List ℕ) (end : ℕ) : Type 0 where
  pub content : List ℕ
  pub behind : List ℕ
  pub bytes_are : bytes ≡ content ++ quote ∷ behind
  pub end_is : end ≡ at + length content + 1
  pub is_content : IsContent quote content
  pub not_doubled : EndOr (λ (byte : ℕ). byte ≢ quote) behind

pub with_plain : (quote byte : ℕ) (content : List ℕ) → IsPlain quote byte → IsContent quote content
    → IsContent quote (byte ∷ content)
with_plain quote byte [] plain h = plain
with_plain quote byte (next ∷ content) plain h = inl (plain, h)

string_here : (quote at byte : ℕ) (behind : List ℕ) (end : ℕ) → (byte == quote) ≡ true
    → at + 1 ≡ end → EndOr (λ (byte : ℕ). byte ≢ quote) behind
    → StringCloses quote at (byte ∷ behind) end
string_here quote at byte behind end same e h = record {
  content = [];
  behind = behind;
  bytes_are = ap (λ b. b ∷ behind) (eqb-true byte quote same);
  end_is = omega arith;
  is_content = tt;
  not_doubled = h;
}

string_plain : (quote at byte : ℕ) (bytes : List ℕ) (end : ℕ) → IsPlain quote byte
    → StringCloses quote (at + 1) bytes end → StringCloses quote at (byte ∷ bytes) end
string_plain quote at byte bytes end plain h = record {
  content = byte ∷ h.content;
  behind = h.behind;
  bytes_are = ap (λ l. byte ∷ l) h.bytes_are;
  end_is = omega (arith, h.end_is);
  is_content = with_plain quote byte h.content plain h.is_content;
  not_doubled = h.not_doubled;
}

string_pair : (quote at byte next : ℕ) (bytes : List ℕ) (end : ℕ) → IsPair quote byte next
    → StringCloses quote (at + 2) bytes end → StringCloses quote at (byte ∷ next ∷ bytes) end
string_pair quote at byte next bytes end pair h = record {
  content = byte ∷ next ∷ h.content;
  behind = h.behind;
  bytes_are = ap (λ l. byte ∷ next ∷ l) h.bytes_are;
  end_is = omega (arith, h.end_is);
  is_content = inr (pair, h.is_content);
  not_doubled = h.not_doubled;
}

closing_is : (a b : Bool) → (a && not b) ≡ true → (a ≡ true) × (b ≡ false)
closing_is true true h = cc
closing_is true false h = (refl, refl)
closing_is false b h = cc

pair_is : (a b c : Bool) → (a && not b) ≡ false → (a || c) ≡ true
    → (c ≡ true) ⊎ ((a ≡ true) × (b ≡ true))
pair_is true true c h e = inr (refl, refl)
pair_is true false c h e = cc
pair_is false b c h e = inl e

plain_is : (a c : Bool) → (a || c) ≡ false → (a ≡ false) × (c ≡ false)
plain_is true c e = cc
plain_is false c e = (refl, e)

pair_of : (quote byte next : ℕ)
    → ((byte == backslash) ≡ true) ⊎ (((byte == quote) ≡ true) × ((next == quote) ≡ true))
    → IsPair quote byte next
pair_of quote byte next (inl h) = inl (eqb-true byte backslash h)
pair_of quote byte next (inr h) = inr (eqb-true byte quote h.0, eqb-true next quote h.1)

-- The end found is behind content and its quote.
pub string_closes : (quote at : ℕ) (bytes : List ℕ) (end : ℕ)
    → quote_end quote at bytes ≡ Some end → StringCloses quote at bytes end
unfolding quote_end
string_closes quote at [] end h = cc
string_closes quote at (byte ∷ []) end h = elim (which (byte == quote) _ _ _ h) [
  | inl w ↦ string_here quote at byte [] end w.0 (cc) tt
  | inr w ↦ cc
]
string_closes quote at (byte ∷ next ∷ bytes) end h =
    elim (which (byte == quote && not (next == quote)) _ _ _ h) [
      | inl w ↦ let both = closing_is (byte == quote) (next == quote) w.0 in
          string_here quote at byte (next ∷ bytes) end both.0 (cc)
          (eqb-false next quote both.1)
      | inr w ↦ elim (which (byte == quote || byte == backslash) _ _ _ w.1) [
        | inl v ↦ string_pair quote at byte next bytes end (pair_of quote byte next (pair_is
            (byte == quote) (next == quote) (byte == backslash) w.0 v.0)) (string_closes quote
            (at + 2) bytes end v.1)
        | inr v ↦ let both = plain_is (byte == quote) (byte == backslash) v.0 in
            string_plain quote at byte (next ∷ bytes) end
            (eqb-false byte quote both.0, eqb-false byte backslash both.1)
            (string_closes quote (at + 1) (next ∷ bytes) end v.1)
      ]
    ]

pub plain_passed : (quote at byte next : ℕ) (bytes : List ℕ) → IsPlain quote byte
    → quote_end quote at (byte ∷ next ∷ bytes) ≡ quote_end quote (at + 1) (next ∷ bytes)
unfolding quote_end
plain_passed quote at byte next bytes h =
    rw (is_other byte quote h.0, is_other byte backslash h.1) refl

pub pair_passed : (quote at byte next : ℕ) (bytes : List ℕ) → quote ≢ backslash
    → IsPair quote byte next
    → quote_end quote at (byte ∷ next ∷ bytes) ≡ quote_end quote (at + 2) bytes
unfolding quote_end
pair_passed quote at byte next bytes apart (inl h) =
    rw (is_other byte quote (λ e. apart (sym e ∙ h)), is_equal byte backslash h) refl
pair_passed quote at byte next bytes apart (inr h) =
    rw (is_equal byte quote h.0, is_equal next quote h.1) refl

closed_here : (quote at : ℕ) (behind : List ℕ) → EndOr (λ (byte : ℕ). byte ≢ quote) behind
    → quote_end quote at (quote ∷ behind) ≡ Some (at + 1)
unfolding quote_end
closed_here quote at [] h = rw (is_equal quote quote refl) refl
closed_here quote at (next ∷ behind) h =
    rw (is_equal quote quote refl, is_other next quote h) refl

-- The end behind content is the one found.
pub string_is : (quote at : ℕ) (content behind : List ℕ) → quote ≢ backslash
    → IsContent quote content → EndOr (λ (byte : ℕ). byte ≢ quote) behind
    → quote_end quote at (content ++ quote ∷ behind) ≡ Some (at + length content + 1)
string_is quote at [] behind apart h e =
    closed_here quote at behind e ∙ ap (λ (n : ℕ). Some n) (omega arith)
string_is quote at (byte ∷ []) behind apart h e =
    plain_passed quote at byte quote behind h ∙ closed_here quote (at + 1) behind e
    ∙ ap (λ (n : ℕ). Some n) (omega arith)
string_is quote at (byte ∷ next ∷ content) behind apart (inl h) e =
    plain_passed quote at byte next (content ++ quote ∷ behind) h.0
    ∙ string_is quote (at + 1) (next ∷ content) behind apart h.1 e
    ∙ ap (λ (n : ℕ). Some n) (omega arith)
string_is quote at (byte ∷ next ∷ content) behind apart (inr h) e =
    pair_passed quote at byte next (content ++ quote ∷ behind) apart h.0
    ∙ string_is quote (at + 2) content behind apart h.1 e
    ∙ ap (λ (n : ℕ). Some n) (omega arith)
