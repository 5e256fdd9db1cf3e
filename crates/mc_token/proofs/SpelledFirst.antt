-- A token has a byte or more, and the first is no space.
use Rattle.std.proofs.Common.{◌≡◌, ◌≢◌, ℕ, ◌+◌, ◌<◌, ◌≤◌, ◌==◌, ◌&&◌, false, true, inl, inr, List, [], ◌∷◌, ◌++◌, Some, None, length, ap, refl, length-append, ◌∙◌, arith}
use Rattle.std.specs.Char.{is_ascii_digit}
use Rattle.std.proofs.lemmas.Bool.Decides.{nat_tests}
use Rattle.mc_token.specs.Bytes.{is_space, begins_word, is_letter_n, is_letter_x, small_x, digit_zero, single_quote, backquote, slash}
use Rattle.mc_token.specs.Comments.{OpensLine}
use Rattle.mc_token.specs.Elements.{opens_line, opens_block, is_block_comment}
use Rattle.mc_token.specs.Marks.{IsMark}
use Rattle.mc_token.specs.Strings.{IsQuote}
use Rattle.mc_token.specs.Spellings.{spelling_of}
use Rattle.mc_token.specs.Spelled.{AreAll, IsSpelled}
use Rattle.mc_token.specs.Tokens.{blank_len}
use Rattle.mc_token.specs.declared.lexeme.Symbol.{Symbol}
use Rattle.mc_token.specs.declared.spelling.Spelling.{Spelling}
use Rattle.mc_token.specs.declared.spelling.Shape.{Shape}
use Rattle.mc_token.specs.declared.spelling.Shape.TheVariants.{Word, Name, Int, Str, National, HexString, HexNumber, Sym}
use Rattle.mc_token.proofs.Blanks.{blank-none}
use Rattle.mc_token.proofs.CutOpenings.{same_first, line_said, refuted}
use Rattle.mc_token.proofs.Marks.{mark_first}
use Rattle.mc_token.proofs.SpelledFound.{front}

-- The byte is neither a space nor a slash.
abbrev pub IsSolid : ℕ → Type 0
IsSolid byte = (is_space byte ≡ false) × ((byte == slash) ≡ false)

word-solid : (first : ℕ) → begins_word first ≡ true → IsSolid first
word-solid first e = (grind (arith, nat_tests), grind (arith, nat_tests))

n-solid : (first : ℕ) → is_letter_n first ≡ true → IsSolid first
n-solid first e = (grind (arith, nat_tests), grind (arith, nat_tests))

x-solid : (first : ℕ) → is_letter_x first ≡ true → IsSolid first
x-solid first e = (grind (arith, nat_tests), grind (arith, nat_tests))

digit-solid : (first : ℕ) → is_ascii_digit first ≡ true → IsSolid first
digit-solid first e = (grind (arith, nat_tests), grind (arith, nat_tests))

quote-solid : (first : ℕ) → IsQuote first → IsSolid first
quote-solid first (inl e) = rw e (refl, refl)
quote-solid first (inr e) = rw e (refl, refl)

-- The first byte is neither.
pub record First (taken : List ℕ) : Type 0 where
  pub first : ℕ
  pub others : List ℕ
  pub taken_is : taken ≡ first ∷ others
  pub solid : IsSolid first

int-first : (taken : List ℕ) → taken ≢ [] → AreAll is_ascii_digit taken → First taken
int-first [] some all = absurd (some refl)
int-first (first ∷ others) some all =
    record { first = first; others = others; taken_is = refl; solid = digit-solid first all.0 }

mark-first : (symbol : Symbol) (taken behind : List ℕ) → IsMark symbol taken behind → First taken
mark-first symbol taken behind h =
    let m = mark_first symbol in
    record {
      first = m.first;
      others = m.others;
      taken_is = h.taken_is ∙ m.text_is;
      solid = (m.no_space, m.no_slash);
    }

pub first_of-token : (shape : Shape) (taken behind : List ℕ) → IsSpelled shape taken behind
    → First taken
first_of-token Word taken behind h =
    record { first = h.0; others = h.1; taken_is = h.2; solid = word-solid h.0 h.3 }
first_of-token Str taken behind h = record {
  first = h.0;
  others = h.1 ++ h.0 ∷ [];
  taken_is = h.3;
  solid = quote-solid h.0 h.2;
}
first_of-token National taken behind h = record {
  first = h.0;
  others = single_quote ∷ h.1;
  taken_is = h.2;
  solid = n-solid h.0 h.3;
}
first_of-token HexString taken behind h = record {
  first = h.0;
  others = single_quote ∷ h.1 ++ single_quote ∷ [];
  taken_is = h.2;
  solid = x-solid h.0 h.3;
}
first_of-token HexNumber taken behind h =
    record { first = digit_zero; others = small_x ∷ h.0; taken_is = h.1; solid = (refl, refl) }
first_of-token (Sym symbol) taken behind h = mark-first symbol taken behind h
first_of-token Name taken behind h = record {
  first = backquote;
  others = h.0 ∷ h.1 ++ backquote ∷ [];
  taken_is = h.2;
  solid = (refl, refl);
}
first_of-token (Int number) taken behind h = int-first taken h.0 h.1

no_block : (first : ℕ) (others : List ℕ) → (first == slash) ≡ false
    → opens_block first others ≡ false
no_block first others e = ap (λ b. b && is_block_comment others) e

-- No space and no comment begins where such a byte is, and no comment to the end of the line.
pub solid-begins : (first : ℕ) (others : List ℕ) → IsSolid first
    → (OpensLine (first ∷ others) → ⊥) → blank_len first others ≡ None
solid-begins first others solid no_line =
    blank-none first others solid.0
    (refuted (opens_line first others) (λ e. no_line (line_said first others e)))
    (no_block first others solid.1)

-- A spelling has a byte or more, and no more than there are.
pub record Spelled (first : ℕ) (others : List ℕ) (spelling : Spelling) : Type 0 where
  pub some : 0 < spelling.len
  pub within : spelling.len ≤ 1 + length others

pub spelled : (first : ℕ) (others : List ℕ) (spelling : Spelling)
    → spelling_of first others ≡ Some spelling → Spelled first others spelling
spelled first others spelling e =
    let f = front first others spelling e in
    let t = first_of-token spelling.shape f.taken f.behind f.is_spelled in
    let whole : first ∷ others ≡ t.first ∷ (t.others ++ f.behind) =
    f.bytes_are ∙ ap (λ l. l ++ f.behind) t.taken_is in
    let same = same_first first t.first others (t.others ++ f.behind) whole in
    let count = ap length same.1 ∙ length-append t.others f.behind in
    let len = f.len_is ∙ ap length t.taken_is in
    record {
      some = omega (arith, len);
      within = omega (arith, len, count);
    }
