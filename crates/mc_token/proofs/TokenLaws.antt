-- The laws of the tokens of a statement, by what begins at a byte.
use Rattle.std.proofs.Common.{◌≡◌, ℕ, ◌+◌, ◌-◌, ◌<◌, ◌≤◌, Bool, true, false, List, [], ◌∷◌, ◌++◌, Some, Result, Ok, Err, length, take, drop, get_or, leb, suc, zero, inl, inr, ◌⊎◌, refl, ap, sym, subst, ◌∙◌, length-append, append_assoc, arith}
use Rattle.std.specs.Prelude.{nat_le}
use Rattle.std.specs.Str.{IsUtf8}
use Rattle.std.proofs.Math.Seq.{take-append_seam, get_or-append_seam}
use Rattle.std.proofs.lemmas.Bool.Decides.{nat_tests}
use Rattle.std.proofs.lemmas.List.{take-append-drop}
use Rattle.mc_base.specs.declared.span.Span.{Span}
use Rattle.mc_token.specs.Bytes.{single_quote}
use Rattle.mc_token.specs.Lexemes.{content, inside, lexeme_of}
use Rattle.mc_token.specs.Spelled.{IsNational, IsSpelled}
use Rattle.mc_token.specs.Spellings.{spelling_of}
use Rattle.mc_token.specs.Strings.{IsQuote, IsString}
use Rattle.mc_token.specs.Tokens.{with_front, token_of, piece_of, tokens_behind, limited, token_limit, all_tokens, tokens_of}
use Rattle.mc_token.specs.TokenLaws.{AreInOrder, HasUtf8Text, HaveUtf8Texts}
use Rattle.mc_token.specs.declared.lexeme.Token.{Token}
use Rattle.mc_token.specs.declared.lexeme.LexFault.{LexFault}
use Rattle.mc_token.specs.declared.lexeme.LexFault.TheVariants.{NoToken, TooManyTokens}
use Rattle.mc_token.specs.declared.piece.Piece.{Piece}
use Rattle.mc_token.specs.declared.piece.Piece.TheVariants.{Blank, Begun, Nothing}
use Rattle.mc_token.specs.declared.spelling.Spelling.{Spelling}
use Rattle.mc_token.specs.declared.spelling.Shape.{Shape}
use Rattle.mc_token.specs.declared.spelling.Shape.TheVariants.{Word, Name, Int, Str, National, HexString, HexNumber, Sym}
use Rattle.mc_token.proofs.CutOpenings.{same_first}
use Rattle.mc_token.proofs.Pieces.{blank_of, piece_token}
use Rattle.mc_token.proofs.SpelledFirst.{spelled}
use Rattle.mc_token.proofs.SpelledFound.{front, front_spelled}
use Rattle.mc_token.proofs.TokenLawsCuts.{AreCutsUtf8, cuts-behind, cuts-drop, cuts-whole}
use Rattle.mc_token.proofs.TokenLawsText.{content-utf8}

-- What begins at a byte

-- A space or a comment begins at this byte, and all the tokens are behind it.
record Passed (end at : ℕ) (behind : List ℕ) (tokens : List Token) : Type 0 where
  len : ℕ
  before : at < end
  fits : len ≤ end - at
  lexed : tokens_behind end (len - 1) (at + 1) behind ≡ Ok tokens

-- A token begins at this byte, and these are all the tokens.
record Started (end at byte : ℕ) (behind : List ℕ) (tokens : List Token) : Type 0 where
  spelling : Spelling
  rest : List Token
  before : at < end
  fits : spelling.len ≤ end - at
  spelled : spelling_of byte behind ≡ Some spelling
  lexed : tokens_behind end (spelling.len - 1) (at + 1) behind ≡ Ok rest
  all : tokens ≡ token_of at spelling (byte ∷ behind) ∷ rest

-- The end is here, or one of the two begins.
abbrev Found : (end at byte : ℕ) → List ℕ → List Token → Type 0
Found end at byte behind tokens =
    (tokens ≡ []) ⊎ (Passed end at behind tokens ⊎ Started end at byte behind tokens)

front-Ok : (token : Token) (lexed : Result (List Token) LexFault) (tokens : List Token)
    → with_front (token ∷ []) lexed ≡ Ok tokens
    → (rest : List Token) × (lexed ≡ Ok rest) × (tokens ≡ token ∷ rest)
front-Ok token (Ok rest) tokens e = (rest, refl, cc)
front-Ok token (Err fault) tokens e = absurd (cc)

is_before : (end at : ℕ) → leb end at ≡ false → at < end
is_before end at e = grind (arith, nat_tests)

found-by : (end at byte : ℕ) (behind : List ℕ) (tokens : List Token) (past : Bool) (piece : Piece)
    → leb end at ≡ past → piece_of (end - at) byte behind ≡ piece
    → tokens_behind end zero at (byte ∷ behind) ≡ Ok tokens → Found end at byte behind tokens
unfolding tokens_behind
found-by end at byte behind tokens true piece p f e =
    let none : ◌≡◌ {A = Result (List Token) LexFault} (Ok []) (Ok tokens) = rw p at e in inl (cc)
found-by end at byte behind tokens false Nothing p f e =
    let no : Err (NoToken at) ≡ Ok tokens = rw (p, f) at e in absurd (cc)
found-by end at byte behind tokens false (Blank len) p f e = inr (inl (record {
  len = len;
  before = is_before end at p;
  fits = (blank_of (end - at) len byte behind f).fits;
  lexed = rw (p, f) at e;
}))
found-by end at byte behind tokens false (Begun spelling) p f e =
    let token = token_of at spelling (byte ∷ behind) in
    let lexed = tokens_behind end (spelling.len - 1) (at + 1) behind in
    let all : with_front (token ∷ []) lexed ≡ Ok tokens = rw (p, f) at e in
    let parts = front-Ok token lexed tokens all in
    let t = piece_token (end - at) spelling byte behind f in
    inr (inr (record {
      spelling = spelling;
      rest = parts.0;
      before = is_before end at p;
      fits = t.fits;
      spelled = t.spelled;
      lexed = parts.1;
      all = parts.2;
    }))

-- What a byte begins, by its tokens.
found : (end at byte : ℕ) (behind : List ℕ) (tokens : List Token)
    → tokens_behind end zero at (byte ∷ behind) ≡ Ok tokens → Found end at byte behind tokens
found end at byte behind tokens e =
    found-by end at byte behind tokens (leb end at) (piece_of (end - at) byte behind) refl refl e

none-left : (end skipped at : ℕ) (tokens : List Token)
    → tokens_behind end skipped at [] ≡ Ok tokens → tokens ≡ []
unfolding tokens_behind
none-left end skipped at tokens e = cc

skip-one : (end skipped at byte : ℕ) (behind : List ℕ)
    → tokens_behind end (suc skipped) at (byte ∷ behind) ≡ tokens_behind end skipped (at + 1) behind
unfolding tokens_behind
skip-one end skipped at byte behind = refl

-- Their order

-- A bound farther in front is a bound too.
earlier : (other from to : ℕ) (tokens : List Token) → other ≤ from → AreInOrder from to tokens
    → AreInOrder other to tokens
earlier other from to [] l o = omega (arith, l, o)
earlier other from to (token ∷ tokens) l o = (omega (arith, l, o.0), o.1, o.2)

order-at : (end at byte : ℕ) (behind : List ℕ) (tokens : List Token) → at ≤ end
    → ((skipped : ℕ) (more : List Token) → at + 1 + skipped ≤ end
    → tokens_behind end skipped (at + 1) behind ≡ Ok more → AreInOrder (at + 1 + skipped) end more)
    → Found end at byte behind tokens → AreInOrder at end tokens
order-at end at byte behind tokens h more (inl none) = subst (AreInOrder at end) (sym none) h
order-at end at byte behind tokens h more (inr (inl p)) =
    earlier at (at + 1 + (p.len - 1)) end tokens (omega arith)
    (more (p.len - 1) tokens (omega (arith, p.before, p.fits)) p.lexed)
order-at end at byte behind tokens h more (inr (inr b)) =
    let s = spelled byte behind b.spelling b.spelled in
    let place : at + 1 + (b.spelling.len - 1) ≡ at + b.spelling.len = omega (arith, s.some) in
    let rest = more (b.spelling.len - 1) b.rest (omega (arith, b.before, b.fits)) b.lexed in
    subst (AreInOrder at end) (sym b.all)
    (omega arith, omega (arith, s.some), subst (λ from. AreInOrder from end b.rest) place rest)

order : (end skipped at : ℕ) (bytes : List ℕ) (tokens : List Token) → at + skipped ≤ end
    → tokens_behind end skipped at bytes ≡ Ok tokens → AreInOrder (at + skipped) end tokens
order end skipped at [] tokens h e =
    subst (AreInOrder (at + skipped) end) (sym (none-left end skipped at tokens e)) h
order end (suc skipped) at (byte ∷ behind) tokens h e =
    let from : at + 1 + skipped ≡ at + suc skipped = omega arith in
    subst (λ first. AreInOrder first end tokens) from
    (order end skipped (at + 1) behind tokens (omega (arith, h))
    (sym (skip-one end skipped at byte behind) ∙ e))
order end zero at (byte ∷ behind) tokens h e =
    let from : at ≡ at + zero = omega arith in
    subst (λ first. AreInOrder first end tokens) from
    (order-at end at byte behind tokens (omega (arith, h))
    (λ skipped more. order end skipped (at + 1) behind more)
    (found end at byte behind tokens e))

-- Their texts

-- between the quotes, behind one byte
inside-one : (quote : ℕ) (text : List ℕ) → inside 1 (quote ∷ text ++ quote ∷ []) ≡ text
inside-one quote text =
    let count : length (quote ∷ text ++ quote ∷ []) - 1 - 1 ≡ length text =
    omega (arith, length-append text (quote ∷ [])) in
    ap (λ n. take n (text ++ quote ∷ [])) count ∙ take-append_seam text (quote ∷ [])

-- and behind two
inside-two : (letter quote : ℕ) (text : List ℕ)
    → inside 2 (letter ∷ quote ∷ text ++ quote ∷ []) ≡ text
inside-two letter quote text =
    let count : length (letter ∷ quote ∷ text ++ quote ∷ []) - 1 - 2 ≡ length text =
    omega (arith, length-append text (quote ∷ [])) in
    ap (λ n. take n (text ++ quote ∷ [])) count ∙ take-append_seam text (quote ∷ [])

quote-low : (quote : ℕ) → IsQuote quote → quote < 128
quote-low quote (inl e) = omega (arith, e)
quote-low quote (inr e) = omega (arith, e)

-- what stands between two quotes
quoted-utf8 : (quote : ℕ) (text behind : List ℕ) → quote < 128
    → AreCutsUtf8 (quote ∷ (text ++ quote ∷ []) ++ behind) → IsUtf8 (content quote text)
quoted-utf8 quote text behind low cuts =
    let assoc = append_assoc text (quote ∷ []) behind in
    let parts = subst (λ l. AreCutsUtf8 (quote ∷ l)) assoc cuts in
    let count = length-append text (quote ∷ behind) in
    let place : 0 + length text ≡ length text = omega arith in
    let last : get_or (text ++ quote ∷ behind) (0 + length text) 0 ≡ quote =
    ap (λ n. get_or (text ++ quote ∷ behind) n 0) place ∙ get_or-append_seam text quote behind 0 in
    let utf8 = parts 0 (length text) (omega (arith, count)) low (omega (arith, last)) in
    content-utf8 quote text low (subst IsUtf8 (take-append_seam text (quote ∷ behind)) utf8)

text-string : (taken behind : List ℕ) → IsString taken behind → AreCutsUtf8 (taken ++ behind)
    → HasUtf8Text (lexeme_of Str taken)
unfolding lexeme_of
text-string taken behind h cuts =
    let quote = h.0 in
    let text = h.1 in
    let utf8 = quoted-utf8 quote text behind (quote-low quote h.2)
    (subst (λ (l : List ℕ). AreCutsUtf8 (l ++ behind)) h.3 cuts) in
    subst (λ (l : List ℕ). HasUtf8Text (lexeme_of Str l)) (sym h.3)
    (subst (λ l. IsUtf8 (content quote l)) (sym (inside-one quote text)) utf8)

-- the string behind the letter
text-national : (taken behind : List ℕ) → IsNational taken behind → AreCutsUtf8 (taken ++ behind)
    → HasUtf8Text (lexeme_of National taken)
unfolding lexeme_of
text-national taken behind h cuts =
    let letter = h.0 in
    let text = h.4.1 in
    let same = same_first single_quote h.4.0 h.1 (text ++ h.4.0 ∷ []) h.4.3 in
    let rest : h.1 ≡ text ++ single_quote ∷ [] =
    same.1 ∙ ap (λ q. text ++ q ∷ []) (sym same.0) in
    let whole : taken ≡ letter ∷ single_quote ∷ text ++ single_quote ∷ [] =
    h.2 ∙ ap (λ l. letter ∷ single_quote ∷ l) rest in
    let parts = cuts-behind letter _ (subst (λ (l : List ℕ). AreCutsUtf8 (l ++ behind)) whole cuts) in
    let utf8 = quoted-utf8 single_quote text behind (omega arith) parts in
    subst (λ (l : List ℕ). HasUtf8Text (lexeme_of National l)) (sym whole)
    (subst (λ l. IsUtf8 (content single_quote l)) (sym (inside-two letter single_quote text)) utf8)

text-of : (shape : Shape) (taken behind : List ℕ) → IsSpelled shape taken behind
    → AreCutsUtf8 (taken ++ behind) → HasUtf8Text (lexeme_of shape taken)
unfolding lexeme_of
text-of Word taken behind h cuts = tt
text-of Name taken behind h cuts = tt
text-of (Int number) taken behind h cuts = tt
text-of HexString taken behind h cuts = tt
text-of HexNumber taken behind h cuts = tt
text-of (Sym symbol) taken behind h cuts = tt
text-of Str taken behind h cuts = text-string taken behind h cuts
text-of National taken behind h cuts = text-national taken behind h cuts

texts-at : (end at byte : ℕ) (behind : List ℕ) (tokens : List Token) → AreCutsUtf8 (byte ∷ behind)
    → ((skipped : ℕ) (more : List Token) → tokens_behind end skipped (at + 1) behind ≡ Ok more
    → HaveUtf8Texts more)
    → Found end at byte behind tokens → HaveUtf8Texts tokens
texts-at end at byte behind tokens cuts more (inl none) = subst HaveUtf8Texts (sym none) tt
texts-at end at byte behind tokens cuts more (inr (inl p)) = more (p.len - 1) tokens p.lexed
texts-at end at byte behind tokens cuts more (inr (inr b)) =
    let len = b.spelling.len in
    let bytes = byte ∷ behind in
    let is_spelled =
    front_spelled bytes b.spelling (front byte behind b.spelling b.spelled) in
    subst HaveUtf8Texts (sym b.all) (
      text-of b.spelling.shape (take len bytes) (drop len bytes) is_spelled
          (subst AreCutsUtf8 (sym (take-append-drop len bytes)) cuts),
      more (b.spelling.len - 1) b.rest b.lexed,
    )

texts : (end skipped at : ℕ) (bytes : List ℕ) (tokens : List Token) → AreCutsUtf8 bytes
    → tokens_behind end skipped at bytes ≡ Ok tokens
    → HaveUtf8Texts tokens
texts end skipped at [] tokens cuts e =
    subst HaveUtf8Texts (sym (none-left end skipped at tokens e)) tt
texts end (suc skipped) at (byte ∷ behind) tokens cuts e =
    texts end skipped (at + 1) behind tokens (cuts-behind byte behind cuts)
    (sym (skip-one end skipped at byte behind) ∙ e)
texts end zero at (byte ∷ behind) tokens cuts e =
    texts-at end at byte behind tokens cuts
    (λ skipped more. texts end skipped (at + 1) behind more (cuts-behind byte behind cuts))
    (found end at byte behind tokens e)

-- The statement

limited-Ok : (few : Bool) (all tokens : List Token) → nat_le (length all) token_limit ≡ few
    → limited (Ok all) ≡ Ok tokens → all ≡ tokens
limited-Ok true all tokens f e = let same : Ok all ≡ Ok tokens = rw f at e in cc
limited-Ok false all tokens f e = let no : Err TooManyTokens ≡ Ok tokens = rw f at e in absurd (cc)

all-of : (lexed : Result (List Token) LexFault) (tokens : List Token) → limited lexed ≡ Ok tokens
    → lexed ≡ Ok tokens
all-of (Ok all) tokens e = ap Ok (limited-Ok (nat_le (length all) token_limit) all tokens refl e)
all-of (Err fault) tokens e = absurd (cc)

pub statement-tokens : (script : List ℕ) (statement : Span) (tokens : List Token)
    → tokens_of script statement ≡ Ok tokens → all_tokens script statement ≡ Ok tokens
unfolding tokens_of
statement-tokens script statement tokens e = all-of (all_tokens script statement) tokens e

pub tokens-order : (script : List ℕ) (statement : Span) (tokens : List Token)
    → statement.start ≤ statement.end → statement.end ≤ length script
    → tokens_of script statement ≡ Ok tokens → AreInOrder statement.start statement.end tokens
tokens-order script statement tokens begins ends e =
    let from : statement.start + zero ≡ statement.start = omega arith in
    subst (λ first. AreInOrder first statement.end tokens) from
    (order statement.end zero statement.start (drop statement.start script) tokens
    (omega (arith, begins)) (statement-tokens script statement tokens e))

pub tokens-texts : (script : List ℕ) (statement : Span) (tokens : List Token) → IsUtf8 script
    → tokens_of script statement ≡ Ok tokens
    → HaveUtf8Texts tokens
tokens-texts script statement tokens utf8 e =
    texts statement.end zero statement.start (drop statement.start script) tokens
    (cuts-drop statement.start script (cuts-whole script utf8))
    (statement-tokens script statement tokens e)
