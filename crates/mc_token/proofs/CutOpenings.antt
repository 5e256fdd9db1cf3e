-- The element that bytes begin, by what opens them.
use Rattle.std.proofs.Common.{◌≡◌, ◌≢◌, ℕ, ◌+◌, ◌==◌, ◌||◌, not, Bool, true, false, ◌⊎◌, inl, inr, List, [], ◌∷◌, length, drop, suc, refl, ap, sym, subst, ◌∙◌, arith}
use Rattle.std.proofs.lemmas.Bool.{eqb-true, eqb-false}
use Rattle.std.proofs.lemmas.Bool.Decides.{nat_tests}
use Rattle.mc_token.specs.Bytes.{is_space, exclamation, double_quote, number_sign, single_quote, star, dash, slash, semicolon}
use Rattle.mc_token.specs.Elements.{line_len, is_dash_comment, is_block_comment, opens_line, opens_block, block_end, quote_end, closed, element_of}
use Rattle.mc_token.specs.declared.element.Element.{Element}
use Rattle.mc_token.specs.declared.element.Kind.{Kind}
use Rattle.mc_token.specs.declared.element.Kind.TheVariants.{Space, Comment, Quoted, Semicolon, Other}
use Rattle.mc_token.specs.Comments.{EndOr, OpensLine, OpensBlock}
use Rattle.mc_token.specs.Strings.{IsQuote}
use Rattle.mc_token.specs.Cut.{BeginsNothing}
use Rattle.mc_token.proofs.CutParts.{is_equal, is_other, both_true}

abbrev pub element_with : Kind → ℕ → Element
element_with kind len = record { kind = kind; len = len }

-- What the tests say

abbrev pub string_opens : ℕ → Bool
string_opens first = first == single_quote || first == double_quote

pub either_true : (a b : Bool) → (a || b) ≡ true → (a ≡ true) ⊎ (b ≡ true)
either_true true b h = inl refl
either_true false b h = inr h

not_zero : (n : ℕ) → (suc n == 0) ≡ false
not_zero n = grind (arith, nat_tests)

dash_said : (rest : List ℕ) → is_dash_comment rest ≡ true
    → (behind : List ℕ) × (rest ≡ dash ∷ behind) × EndOr (λ (byte : ℕ). is_space byte ≡ true) behind
dash_said [] h = cc
dash_said (second ∷ []) h =
    let both = both_true (second == dash) _ h in
    ([], ap (λ b. b ∷ []) (eqb-true second dash both.0), tt)
dash_said (second ∷ next ∷ behind) h =
    let both = both_true (second == dash) _ h in (
      next ∷ behind,
      ap (λ b. b ∷ next ∷ behind) (eqb-true second dash both.0),
      rw (not_zero (length behind)) at both.1,
    )

dash_holds : (behind : List ℕ) → EndOr (λ (byte : ℕ). is_space byte ≡ true) behind
    → is_dash_comment (dash ∷ behind) ≡ true
dash_holds [] h = refl
dash_holds (next ∷ behind) h = rw (not_zero (length behind)) h

pub line_said : (first : ℕ) (rest : List ℕ) → opens_line first rest ≡ true
    → OpensLine (first ∷ rest)
line_said first rest h = elim (either_true (first == number_sign) _ h) [
  | inl w ↦ inl (rest, ap (λ b. b ∷ rest) (eqb-true first number_sign w))
  | inr w ↦ let both = both_true (first == dash) (is_dash_comment rest) w in
      let said = dash_said rest both.1 in
      let one = eqb-true first dash both.0 in
      let two = said.1 in
      inr (said.0, cc, said.2)
]

negated : (b : Bool) → not b ≡ true → b ≡ false
negated true h = cc
negated false h = refl

block_rest : (rest : List ℕ) → is_block_comment rest ≡ true
    → (behind : List ℕ) × (rest ≡ star ∷ behind) × EndOr (λ (byte : ℕ). byte ≢ exclamation) behind
block_rest [] h = cc
block_rest (second ∷ []) h =
    let both = both_true (second == star) _ h in
    ([], ap (λ b. b ∷ []) (eqb-true second star both.0), tt)
block_rest (second ∷ next ∷ behind) h =
    let both = both_true (second == star) (not (next == exclamation)) h in (
      next ∷ behind,
      ap (λ b. b ∷ next ∷ behind) (eqb-true second star both.0),
      eqb-false next exclamation (negated (next == exclamation) both.1),
    )

block_holds : (behind : List ℕ) → EndOr (λ (byte : ℕ). byte ≢ exclamation) behind
    → is_block_comment (star ∷ behind) ≡ true
block_holds [] h = refl
block_holds (next ∷ behind) h = rw (is_other next exclamation h) refl

pub block_said : (first : ℕ) (rest : List ℕ) → opens_block first rest ≡ true
    → OpensBlock (first ∷ rest)
block_said first rest h =
    let both = both_true (first == slash) (is_block_comment rest) h in
    let said = block_rest rest both.1 in
    let one = eqb-true first slash both.0 in
    let two = said.1 in
    (said.0, cc, said.2)

pub quote_said : (first : ℕ) → string_opens first ≡ true → IsQuote first
quote_said first h = elim (either_true (first == single_quote) _ h) [
  | inl w ↦ inl (eqb-true first single_quote w)
  | inr w ↦ inr (eqb-true first double_quote w)
]

or_true : (a : Bool) → (a || true) ≡ true
or_true true = refl
or_true false = refl

-- The first byte and those behind it.
pub same_first : (first second : ℕ) (rest others : List ℕ) → first ∷ rest ≡ second ∷ others
    → (first ≡ second) × (rest ≡ others)
same_first first second rest others h = (cc, cc)

pub line_holds : (first : ℕ) (rest : List ℕ) → OpensLine (first ∷ rest)
    → opens_line first rest ≡ true
line_holds first rest (inl h) =
    let same = same_first first number_sign rest h.0 h.1 in
    rw (is_equal first number_sign same.0) refl
line_holds first rest (inr h) =
    let same = same_first first dash rest (dash ∷ h.0) h.1 in
    let opens : is_dash_comment rest ≡ true =
    ap (λ l. is_dash_comment l) same.1 ∙ dash_holds h.0 h.2 in
    rw (is_equal first dash same.0, opens) (or_true (first == number_sign))

pub block_test_holds : (first : ℕ) (rest : List ℕ) → OpensBlock (first ∷ rest)
    → opens_block first rest ≡ true
block_test_holds first rest h =
    let same = same_first first slash rest (star ∷ h.0) h.1 in
    let opens : is_block_comment rest ≡ true =
    ap (λ l. is_block_comment l) same.1 ∙ block_holds h.0 h.2 in
    rw (is_equal first slash same.0, opens) refl

pub quote_holds : (first : ℕ) → IsQuote first → string_opens first ≡ true
quote_holds first (inl h) = rw (is_equal first single_quote h) refl
quote_holds first (inr h) = rw (is_equal first double_quote h) (or_true (first == single_quote))

-- The element

pub element_space : (first : ℕ) (rest : List ℕ) → is_space first ≡ true
    → element_of first rest ≡ element_with Space 1
unfolding element_of
element_space first rest h = rw h refl

pub element_semicolon : (rest : List ℕ)
    → element_of semicolon rest ≡ element_with Semicolon 1
unfolding element_of
element_semicolon rest = refl

number_line : (rest : List ℕ)
    → element_of number_sign rest ≡ element_with Comment (1 + line_len rest)
unfolding element_of
number_line rest = refl

dash_line : (rest : List ℕ) → is_dash_comment rest ≡ true
    → element_of dash rest ≡ element_with Comment (1 + line_len rest)
unfolding element_of
dash_line rest h = rw h refl

pub element_line : (first : ℕ) (rest : List ℕ) → OpensLine (first ∷ rest)
    → element_of first rest ≡ element_with Comment (1 + line_len rest)
element_line first rest (inl h) =
    let same = same_first first number_sign rest h.0 h.1 in
    ap (λ b. element_of b rest) same.0 ∙ number_line rest
element_line first rest (inr h) =
    let same = same_first first dash rest (dash ∷ h.0) h.1 in
    let opens : is_dash_comment rest ≡ true =
    ap (λ l. is_dash_comment l) same.1 ∙ dash_holds h.0 h.2 in
    ap (λ b. element_of b rest) same.0 ∙ dash_line rest opens

slash_block : (rest : List ℕ) → is_block_comment rest ≡ true
    → element_of slash rest ≡ closed Comment (block_end 1 (drop 1 rest)) rest
unfolding element_of
slash_block rest h = rw h refl

pub element_block : (rest : List ℕ) → EndOr (λ (byte : ℕ). byte ≢ exclamation) rest
    → element_of slash (star ∷ rest) ≡ closed Comment (block_end 1 rest) (star ∷ rest)
element_block rest h = slash_block (star ∷ rest) (block_holds rest h)

single_string : (rest : List ℕ)
    → element_of single_quote rest ≡ closed Quoted (quote_end single_quote 0 rest) rest
unfolding element_of
single_string rest = refl

double_string : (rest : List ℕ)
    → element_of double_quote rest ≡ closed Quoted (quote_end double_quote 0 rest) rest
unfolding element_of
double_string rest = refl

pub element_string : (quote : ℕ) (rest : List ℕ) → IsQuote quote
    → element_of quote rest ≡ closed Quoted (quote_end quote 0 rest) rest
element_string quote rest (inl h) =
    subst (λ (q : ℕ). element_of q rest ≡ closed Quoted (quote_end q 0 rest) rest) (sym h)
    (single_string rest)
element_string quote rest (inr h) =
    subst (λ (q : ℕ). element_of q rest ≡ closed Quoted (quote_end q 0 rest) rest) (sym h)
    (double_string rest)

pub refuted : (b : Bool) → (b ≡ true → ⊥) → b ≡ false
refuted true h = absurd (h refl)
refuted false h = refl

pub element_other : (first : ℕ) (rest : List ℕ) → BeginsNothing first (first ∷ rest)
    → element_of first rest ≡ element_with Other 1
unfolding element_of
element_other first rest h =
    let space = h.0 in
    let semi = is_other first semicolon h.1 in
    let line = refuted (opens_line first rest) (λ e. h.2 (line_said first rest e)) in
    let block = refuted (opens_block first rest) (λ e. h.3 (block_said first rest e)) in
    let string = refuted (string_opens first) (λ e. h.4 (first, rest, quote_said first e, refl)) in
    rw (space, semi, line, block, string) refl
