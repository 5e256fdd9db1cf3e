-- An element of a kind is the one that its bytes begin, and each byte begins one.
use Rattle.std.proofs.Common.{◌≡◌, ◌≢◌, ℕ, ◌+◌, ◌⊎◌, inl, inr, List, [], ◌∷◌, ◌++◌, length, Option, Some, None, suc, zero, refl, ap, sym, subst, ◌∙◌, length-append, append_assoc, append-nil, arith}
use Rattle.mc_token.specs.Bytes.{line_feed, exclamation, number_sign, star, dash, slash, semicolon, backslash}
use Rattle.mc_token.specs.Elements.{line_len, block_end, quote_end, closed, element_of}
use Rattle.mc_token.specs.declared.element.Kind.{Kind}
use Rattle.mc_token.specs.declared.element.Kind.TheVariants.{Space, Comment, Quoted, Unclosed, Semicolon, Other}
use Rattle.mc_token.specs.Comments.{EndOr, OpensLine, OpensBlock, IsLineComment, IsBlockComment}
use Rattle.mc_token.specs.Strings.{IsQuote, IsString}
use Rattle.mc_token.specs.Cut.{HasNo, IsUnclosed, BeginsNothing, IsElement}
use Rattle.mc_token.proofs.CutParts.{line_is, BlockCloses, block_closes, block_is}
use Rattle.mc_token.proofs.CutStrings.{StringCloses, string_closes, string_is}
use Rattle.mc_token.proofs.CutOpenings.{element_with, same_first, element_space, element_semicolon, element_line, element_block, element_string, element_other}

-- The bytes taken have a first one, and begin this element.
pub record Found (kind : Kind) (taken behind : List ℕ) : Type 0 where
  pub first : ℕ
  pub others : List ℕ
  pub taken_is : taken ≡ first ∷ others
  pub element_is : element_of first (others ++ behind) ≡ element_with kind (suc (length others))

-- the same element, its length counted otherwise
same_len : (kind : Kind) (first : ℕ) (bytes : List ℕ) (len count : ℕ)
    → element_of first bytes ≡ element_with kind len → len ≡ count
    → element_of first bytes ≡ element_with kind count
same_len kind first bytes len count e same = e ∙ ap (λ (n : ℕ). element_with kind n) same

space_found : (taken behind : List ℕ) → IsElement Space taken behind → Found Space taken behind
space_found taken behind h = record {
  first = h.0;
  others = [];
  taken_is = h.1;
  element_is = same_len Space h.0 behind 1 (suc zero) (element_space h.0 behind h.2) (omega arith);
}

semicolon_found : (taken behind : List ℕ) → IsElement Semicolon taken behind
    → Found Semicolon taken behind
semicolon_found taken behind h = record {
  first = semicolon;
  others = [];
  taken_is = h;
  element_is = same_len Semicolon semicolon behind 1 (suc zero) (element_semicolon behind)
      (omega arith);
}

other_found : (taken behind : List ℕ) → IsElement Other taken behind → Found Other taken behind
other_found taken behind h = record {
  first = h.0;
  others = [];
  taken_is = h.1;
  element_is = same_len Other h.0 behind 1 (suc zero) (element_other h.0 behind
      (subst (λ (l : List ℕ). BeginsNothing h.0 (l ++ behind)) h.1 h.2)) (omega arith);
}

-- no line feed opens a comment, nor does the end
pub opens_none : (behind : List ℕ) → EndOr (λ (byte : ℕ). byte ≡ line_feed) behind
    → OpensLine behind → ⊥
opens_none [] e (inl h) = let same = h.1 in cc
opens_none [] e (inr h) = let same = h.1 in cc
opens_none (byte ∷ bytes) e (inl h) =
    let same = same_first byte number_sign bytes h.0 h.1 in
    absurd (omega (arith, same.0, e))
opens_none (byte ∷ bytes) e (inr h) =
    let same = same_first byte dash bytes (dash ∷ h.0) h.1 in
    absurd (omega (arith, same.0, e))

line_found : (taken behind : List ℕ) → IsLineComment taken behind → Found Comment taken behind
line_found [] behind h = absurd (opens_none behind h.2 h.0)
line_found (first ∷ others) behind h =
    let len = line_is others behind h.1.1 h.2 in
    record {
      first = first;
      others = others;
      taken_is = refl;
      element_is = same_len Comment first (others ++ behind) (1 + line_len (others ++ behind))
          (suc (length others)) (element_line first (others ++ behind) h.0) (omega arith);
    }

behind_slash : (between behind : List ℕ)
    → (star ∷ between ++ star ∷ slash ∷ []) ++ behind ≡ star ∷ (between ++ star ∷ slash ∷ behind)
behind_slash between behind = ap (λ l. star ∷ l) (append_assoc between (star ∷ slash ∷ []) behind)

-- What is behind the `/*` of a closed comment.
block_opened : (between behind : List ℕ)
    → OpensBlock ((slash ∷ star ∷ between ++ star ∷ slash ∷ []) ++ behind)
    → EndOr (λ (byte : ℕ). byte ≢ exclamation) (between ++ star ∷ slash ∷ behind)
block_opened between behind h =
    let assoc : (between ++ star ∷ slash ∷ []) ++ behind ≡ between ++ star ∷ slash ∷ behind =
    append_assoc between (star ∷ slash ∷ []) behind in
    let one = same_first slash slash _ _ h.1 in
    let two = same_first star star _ _ one.1 in
    subst (EndOr (λ (byte : ℕ). byte ≢ exclamation)) (sym two.1 ∙ assoc) h.2

block_found : (taken behind : List ℕ) → IsBlockComment taken behind → Found Comment taken behind
block_found taken behind h =
    let between = h.0 in
    let rest = between ++ star ∷ slash ∷ behind in
    let opened = block_opened between behind (subst (λ (l : List ℕ). OpensBlock (l ++ behind)) h.1
    h.2) in
    let count = length-append between (star ∷ slash ∷ []) in
    record {
      first = slash;
      others = star ∷ between ++ star ∷ slash ∷ [];
      taken_is = h.1;
      element_is = ap (λ l. element_of slash l) (behind_slash between behind)
          ∙ same_len Comment slash (star ∷ rest) (1 + (1 + length between + 2))
          (suc (length (star ∷ between ++ star ∷ slash ∷ []))) (element_block rest opened
          ∙ ap (λ (found : Option ℕ). closed Comment found (star ∷ rest)) (block_is 1 between behind
          h.3)) (omega arith);
    }

pub not_backslash : (quote : ℕ) → IsQuote quote → quote ≢ backslash
not_backslash quote (inl h) e = absurd (omega (arith, h, e))
not_backslash quote (inr h) e = absurd (omega (arith, h, e))

string_found : (taken behind : List ℕ) → IsString taken behind → Found Quoted taken behind
string_found taken behind h =
    let quote = h.0 in
    let content = h.1 in
    let rest = content ++ quote ∷ behind in
    let assoc : (content ++ quote ∷ []) ++ behind ≡ rest =
    append_assoc content (quote ∷ []) behind in
    let count = length-append content (quote ∷ []) in
    record {
      first = quote;
      others = content ++ quote ∷ [];
      taken_is = h.3;
      element_is = ap (λ l. element_of quote l) assoc
          ∙ same_len Quoted quote rest (1 + (0 + length content + 1))
          (suc (length (content ++ quote ∷ []))) (element_string quote rest h.2
          ∙ ap (λ (found : Option ℕ). closed Quoted found rest) (string_is quote 0 content behind
          (not_backslash quote h.2) h.4 h.5)) (omega arith);
    }

-- A closed string and a closed comment, where the end is found.
pub string_of : (quote : ℕ) (rest : List ℕ) (end : ℕ) → IsQuote quote
    → (c : StringCloses quote 0 rest end)
    → (quote ∷ rest ≡ (quote ∷ c.content ++ quote ∷ []) ++ c.behind)
    × IsString (quote ∷ c.content ++ quote ∷ []) c.behind
string_of quote rest end h c =
    let assoc : (c.content ++ quote ∷ []) ++ c.behind ≡ c.content ++ quote ∷ c.behind =
    append_assoc c.content (quote ∷ []) c.behind in (
      ap (λ l. quote ∷ l) (c.bytes_are ∙ sym assoc),
      (quote, c.content, h, refl, c.is_content, c.not_doubled),
    )

pub block_of : (rest : List ℕ) (end : ℕ) → EndOr (λ (byte : ℕ). byte ≢ exclamation) rest
    → (c : BlockCloses 1 rest end)
    → (slash ∷ star ∷ rest ≡ (slash ∷ star ∷ c.between ++ star ∷ slash ∷ []) ++ c.behind)
    × IsBlockComment (slash ∷ star ∷ c.between ++ star ∷ slash ∷ []) c.behind
block_of rest end h c =
    let assoc : (c.between ++ star ∷ slash ∷ []) ++ c.behind
    ≡ c.between ++ star ∷ slash ∷ c.behind =
    append_assoc c.between (star ∷ slash ∷ []) c.behind in
    let whole : slash ∷ star ∷ rest ≡ (slash ∷ star ∷ c.between ++ star ∷ slash ∷ []) ++ c.behind =
    ap (λ l. slash ∷ star ∷ l) (c.bytes_are ∙ sym assoc) in
    (whole, (c.between, refl, (rest, sym whole, h), c.first))

-- Unclosed

unclosed_string : (quote : ℕ) (rest : List ℕ) (found : Option ℕ) → quote_end quote 0 rest ≡ found
    → IsQuote quote → HasNo IsString (quote ∷ rest)
    → closed Quoted found rest ≡ element_with Unclosed (suc (length rest))
unclosed_string quote rest None e h none = ap (element_with Unclosed) (omega arith)
unclosed_string quote rest (Some end) e h none =
    let c = string_closes quote 0 rest end e in
    let s = string_of quote rest end h c in
    absurd (none (quote ∷ c.content ++ quote ∷ []) c.behind s.0 s.1)

unclosed_block : (rest : List ℕ) (found : Option ℕ) → block_end 1 rest ≡ found
    → EndOr (λ (byte : ℕ). byte ≢ exclamation) rest → HasNo IsBlockComment (slash ∷ star ∷ rest)
    → closed Comment found (star ∷ rest) ≡ element_with Unclosed (suc (length (star ∷ rest)))
unclosed_block rest None e h none = ap (element_with Unclosed) (omega arith)
unclosed_block rest (Some end) e h none =
    let c = block_closes 1 rest end e in
    let s = block_of rest end h c in
    absurd (none (slash ∷ star ∷ c.between ++ star ∷ slash ∷ []) c.behind s.0 s.1)

nothing_behind : (others behind : List ℕ) → behind ≡ [] → others ++ behind ≡ others
nothing_behind others behind h = ap (λ l. others ++ l) h ∙ append-nil others

unclosed_found : (taken behind : List ℕ) → IsUnclosed taken → behind ≡ []
    → Found Unclosed taken behind
unclosed_found taken behind (inl h) end =
    let quote = h.0.0 in
    let rest = h.0.1 in
    record {
      first = quote;
      others = rest;
      taken_is = h.0.3;
      element_is = ap (λ l. element_of quote l) (nothing_behind rest behind end)
          ∙ element_string quote rest h.0.2
          ∙ unclosed_string quote rest (quote_end quote 0 rest) refl h.0.2
          (subst (λ (l : List ℕ). HasNo IsString l) h.0.3 h.1);
    }
unclosed_found taken behind (inr h) end =
    let rest = h.0.0 in
    record {
      first = slash;
      others = star ∷ rest;
      taken_is = h.0.1;
      element_is = ap (λ l. element_of slash l) (nothing_behind (star ∷ rest) behind end)
          ∙ element_block rest h.0.2
          ∙ unclosed_block rest (block_end 1 rest) refl h.0.2
          (subst (λ (l : List ℕ). HasNo IsBlockComment l) h.0.1 h.1);
    }

comment_found : (taken behind : List ℕ) → IsLineComment taken behind ⊎ IsBlockComment taken behind
    → Found Comment taken behind
comment_found taken behind (inl h) = line_found taken behind h
comment_found taken behind (inr h) = block_found taken behind h

-- An element of a kind is the one that its bytes begin.
pub element_found : (kind : Kind) (taken behind : List ℕ) → IsElement kind taken behind
    → Found kind taken behind
element_found Space taken behind h = space_found taken behind h
element_found Comment taken behind h = comment_found taken behind h
element_found Quoted taken behind h = string_found taken behind h
element_found Unclosed taken behind h = unclosed_found taken behind h.0 h.1
element_found Semicolon taken behind h = semicolon_found taken behind h
element_found Other taken behind h = other_found taken behind h
