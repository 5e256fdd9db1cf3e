-- Neither a blank nor a token crosses the end of its statement.
use Rattle.std.proofs.Common.{◌≡◌, ◌≢◌, ℕ, ◌+◌, ◌==◌, ◌||◌, not, Bool, true, false, inl, inr, List, [], ◌∷◌, ◌++◌, Option, Some, None, length, suc, refl, ap, sym, subst, append-nil, append_assoc, length-append, ◌∙◌, arith}
use Rattle.std.specs.Char.{is_ascii_digit, is_ascii_hexdigit}
use Rattle.std.proofs.lemmas.Bool.{eqb-true, eqb-false}
use Rattle.std.proofs.lemmas.Bool.Decides.{nat_tests}
use Rattle.mc_token.specs.Bytes.{is_space, begins_word, continues_word, is_letter_n, is_letter_x, number_sign, dash, slash, semicolon, single_quote, double_quote, backquote, digit_zero, small_x, backslash}
use Rattle.mc_token.specs.Comments.{OpensLine}
use Rattle.mc_token.specs.Cover.{AreBlanks, IsToken, Cover, EndsWithin}
use Rattle.mc_token.specs.Cut.{Takes}
use Rattle.mc_token.specs.Elements.{opens_line, quote_end, closed, element_of, elements, elements_behind}
use Rattle.mc_token.specs.Marks.{mark_text}
use Rattle.mc_token.specs.Spelled.{AreAll, IsSpelled, IsName}
use Rattle.mc_token.specs.Statements.{is_end, statement_len}
use Rattle.mc_token.specs.Strings.{IsPlain, IsContent, IsString}
use Rattle.mc_token.specs.Tokens.{is_blank}
use Rattle.mc_token.specs.declared.element.Element.{Element}
use Rattle.mc_token.specs.declared.element.Kind.{Kind}
use Rattle.mc_token.specs.declared.element.Kind.TheVariants.{Space, Comment, Quoted, Unclosed, Semicolon, Other}
use Rattle.mc_token.specs.declared.lexeme.Lexeme.{Lexeme}
use Rattle.mc_token.specs.declared.lexeme.Symbol.{Symbol}
use Rattle.mc_token.specs.declared.lexeme.Symbol.TheVariants.{LeftParen, RightParen, Comma, Dot, Star, Plus, Minus, Percent, Eq, Ne, NeBang, Lt, Le, Gt, Ge, NullEq}
use Rattle.mc_token.specs.declared.lexeme.Token.{Token}
use Rattle.mc_token.specs.declared.spelling.Shape.{Shape}
use Rattle.mc_token.specs.declared.spelling.Shape.TheVariants.{Word, Name, Int, Str, National, HexString, HexNumber, Sym}
use Rattle.mc_token.proofs.CutElements.{not_backslash}
use Rattle.mc_token.proofs.CutOpenings.{element_with, element_string, line_said, refuted}
use Rattle.mc_token.proofs.CutStrings.{string_closes, string_is, plain_passed, pair_passed, with_plain}
use Rattle.mc_token.proofs.CutWhole.{front_element, taken_front}

-- How many bytes are before the end of the statement that these bytes go on with.
abbrev pub before_end : List ℕ → ℕ
before_end bytes = statement_len (elements bytes)

-- One element

part-len : (bytes : List ℕ) (part : Element) (left : List ℕ) → Takes bytes part left
    → is_end part.kind ≡ false → before_end bytes ≡ part.len + before_end left
unfolding statement_len
part-len bytes part left t no_end =
    ap statement_len (taken_front bytes part left t) ∙ rw no_end refl

blank-kind : (kind : Kind) → is_blank kind ≡ true → is_end kind ≡ false
blank-kind Space h = refl
blank-kind Comment h = refl
blank-kind Quoted h = refl
blank-kind Unclosed h = refl
blank-kind Other h = refl
blank-kind Semicolon h = sym h

string-len : (taken left : List ℕ) → IsString taken left
    → before_end (taken ++ left) ≡ length taken + before_end left
string-len taken left h = part-len (taken ++ left) (element_with Quoted (length taken)) left
    (record { taken = taken; bytes_are = refl; len_is = refl; is_element = h }) refl

other-len : (byte : ℕ) (left : List ℕ) → element_of byte left ≡ element_with Other 1
    → before_end (byte ∷ left) ≡ 1 + before_end left
unfolding statement_len
other-len byte left e = ap statement_len (front_element byte [] left Other e)

-- Bytes that begin no element but their own

abbrev is_unlike : ℕ → Bool
is_unlike byte = not (is_space byte || byte == semicolon || byte == number_sign || byte == dash
    || byte == slash || byte == single_quote || byte == double_quote)

unlike-other : (byte : ℕ) (left : List ℕ) → is_unlike byte ≡ true
    → element_of byte left ≡ element_with Other 1
unfolding element_of
unlike-other byte left e =
    let a : is_space byte ≡ false = grind (arith, nat_tests) in
    let b : (byte == semicolon) ≡ false = grind (arith, nat_tests) in
    let c : (byte == number_sign) ≡ false = grind (arith, nat_tests) in
    let d : (byte == dash) ≡ false = grind (arith, nat_tests) in
    let f : (byte == slash) ≡ false = grind (arith, nat_tests) in
    let g : (byte == single_quote) ≡ false = grind (arith, nat_tests) in
    let h : (byte == double_quote) ≡ false = grind (arith, nat_tests) in
    rw (a, b, c, d, f, g, h) refl

run-len : (taken left : List ℕ) → AreAll is_unlike taken
    → before_end (taken ++ left) ≡ length taken + before_end left
run-len [] left all = omega arith
run-len (byte ∷ taken) left all = omega (
  arith,
  other-len byte (taken ++ left) (unlike-other byte (taken ++ left) all.0),
  run-len taken left all.1,
)

all-of : (test : ℕ → Bool) → ((byte : ℕ) → test byte ≡ true → is_unlike byte ≡ true)
    → (bytes : List ℕ) → AreAll test bytes → AreAll is_unlike bytes
all-of test one [] all = tt
all-of test one (byte ∷ bytes) all = (one byte all.0, all-of test one bytes all.1)

all-joined : (front behind : List ℕ) → AreAll is_unlike front → AreAll is_unlike behind
    → AreAll is_unlike (front ++ behind)
all-joined [] behind all more = more
all-joined (byte ∷ front) behind all more = (all.0, all-joined front behind all.1 more)

word-unlike : (byte : ℕ) → continues_word byte ≡ true → is_unlike byte ≡ true
word-unlike byte e = grind (arith, nat_tests)

begins-unlike : (byte : ℕ) → begins_word byte ≡ true → is_unlike byte ≡ true
begins-unlike byte e = grind (arith, nat_tests)

digit-unlike : (byte : ℕ) → is_ascii_digit byte ≡ true → is_unlike byte ≡ true
digit-unlike byte e = grind (arith, nat_tests)

hexdigit-unlike : (byte : ℕ) → is_ascii_hexdigit byte ≡ true → is_unlike byte ≡ true
hexdigit-unlike byte e = grind (arith, nat_tests)

n-unlike : (byte : ℕ) → is_letter_n byte ≡ true → is_unlike byte ≡ true
n-unlike byte e = grind (arith, nat_tests)

x-unlike : (byte : ℕ) → is_letter_x byte ≡ true → is_unlike byte ≡ true
x-unlike byte e = grind (arith, nat_tests)

-- Digits in single quotes, whatever is behind them

hex-plain : (digit : ℕ) → is_ascii_hexdigit digit ≡ true → IsPlain single_quote digit
hex-plain digit h = (
  λ e. let no : false ≡ true = ap is_ascii_hexdigit (sym e) ∙ h in cc,
  λ e. let no : false ≡ true = ap is_ascii_hexdigit (sym e) ∙ h in cc,
)

digits-content : (digits : List ℕ) → AreAll is_ascii_hexdigit digits
    → IsContent single_quote digits
digits-content [] all = tt
digits-content (digit ∷ digits) all =
    with_plain single_quote digit digits (hex-plain digit all.0) (digits-content digits all.1)

joined-content : (digits more : List ℕ) → AreAll is_ascii_hexdigit digits
    → IsContent single_quote more → IsContent single_quote (digits ++ more)
joined-content [] more all h = h
joined-content (digit ∷ digits) more all h =
    with_plain single_quote digit (digits ++ more) (hex-plain digit all.0)
    (joined-content digits more all.1 h)

apart : single_quote ≢ backslash
apart = not_backslash single_quote (inl refl)

digits-passed : (at : ℕ) (digits rest : List ℕ) → AreAll is_ascii_hexdigit digits
    → quote_end single_quote at (digits ++ single_quote ∷ single_quote ∷ rest)
    ≡ quote_end single_quote (at + length digits + 2) rest
digits-passed at [] rest all =
    pair_passed single_quote at single_quote single_quote rest apart (inr (refl, refl))
    ∙ ap (λ n. quote_end single_quote n rest) (omega arith)
digits-passed at (digit ∷ []) rest all =
    plain_passed single_quote at digit single_quote (single_quote ∷ rest) (hex-plain digit all.0)
    ∙ digits-passed (at + 1) [] rest tt ∙ ap (λ n. quote_end single_quote n rest) (omega arith)
digits-passed at (digit ∷ next ∷ digits) rest all =
    plain_passed single_quote at digit next (digits ++ single_quote ∷ single_quote ∷ rest)
    (hex-plain digit all.0)
    ∙ digits-passed (at + 1) (next ∷ digits) rest all.1
    ∙ ap (λ n. quote_end single_quote n rest) (omega arith)

-- a string that is never closed
unclosed_count : (len : ℕ) → statement_len (element_with Unclosed len ∷ elements []) ≡ len
unfolding statement_len elements_behind
unclosed_count len = omega arith

unclosed-len : (rest : List ℕ) → quote_end single_quote 0 rest ≡ None
    → before_end (single_quote ∷ rest) ≡ suc (length rest)
unclosed-len rest none =
    let one_more : 1 + length rest ≡ suc (length rest) = omega arith in
    let e : element_of single_quote (rest ++ []) ≡ element_with Unclosed (suc (length rest)) =
    ap (element_of single_quote) (append-nil rest) ∙ element_string single_quote rest (inl refl)
    ∙ ap (λ (found : Option ℕ). closed Quoted found rest) none
    ∙ ap (element_with Unclosed) one_more in
    ap (λ (l : List ℕ). before_end (single_quote ∷ l)) (sym (append-nil rest))
    ∙ ap statement_len (front_element single_quote rest [] Unclosed e)
    ∙ unclosed_count (suc (length rest))

none-anywhere : (at other : ℕ) (bytes : List ℕ) (found : Option ℕ)
    → quote_end single_quote at bytes ≡ None → quote_end single_quote other bytes ≡ found
    → found ≡ None
none-anywhere at other bytes None none e = refl
none-anywhere at other bytes (Some end) none e =
    let c = string_closes single_quote other bytes end e in
    let closes = ap (quote_end single_quote at) c.bytes_are
    ∙ string_is single_quote at c.content c.behind apart c.is_content c.not_doubled in
    let no : None ≡ Some (at + length c.content + 1) = sym none ∙ closes in
    absurd (cc)

-- one quote more: the string goes on, and ends where one that begins with that quote does
doubled-by : (digits rest : List ℕ) (found : Option ℕ) → AreAll is_ascii_hexdigit digits
    → quote_end single_quote 0 rest ≡ found
    → before_end (single_quote ∷ digits ++ single_quote ∷ single_quote ∷ rest)
    ≡ 2 + length digits + before_end (single_quote ∷ rest)
doubled-by digits rest None all e =
    let behind = single_quote ∷ single_quote ∷ rest in
    let none = digits-passed 0 digits rest all
    ∙ none-anywhere 0 (0 + length digits + 2) rest _ e refl in
    let count = length-append digits behind in
    omega (arith, unclosed-len (digits ++ behind) none, unclosed-len rest e, count)
doubled-by digits rest (Some end) all e =
    let c = string_closes single_quote 0 rest end e in
    let more = single_quote ∷ single_quote ∷ c.content in
    let last = single_quote ∷ [] in
    let long = single_quote ∷ (digits ++ more) ++ last in
    let short = single_quote ∷ c.content ++ last in
    let long_len = string-len long c.behind (
      single_quote,
      digits ++ more,
      inl refl,
      refl,
      joined-content digits more all (inr (inr (refl, refl), c.is_content)),
      c.not_doubled,
    ) in
    let short_len = string-len short c.behind
    (single_quote, c.content, inl refl, refl, c.is_content, c.not_doubled) in
    let short_is : single_quote ∷ rest ≡ short ++ c.behind =
    ap (λ l. single_quote ∷ l) (c.bytes_are ∙ sym (append_assoc c.content last c.behind)) in
    let long_is : single_quote ∷ digits ++ single_quote ∷ single_quote ∷ rest
    ≡ long ++ c.behind =
    ap (λ l. single_quote ∷ digits ++ single_quote ∷ single_quote ∷ l) c.bytes_are
    ∙ ap (λ l. single_quote ∷ l) (sym (append_assoc digits more (single_quote ∷ c.behind))
    ∙ sym (append_assoc (digits ++ more) last c.behind)) in
    let long_count = length-append (digits ++ more) last in
    let more_count = length-append digits more in
    let short_count = length-append c.content last in
    omega (
      arith,
      ap before_end long_is,
      ap before_end short_is,
      long_len,
      short_len,
      long_count,
      more_count,
      short_count,
    )

digits-by : (digits : List ℕ) (byte : ℕ) (rest : List ℕ) (quote : Bool)
    → AreAll is_ascii_hexdigit digits → (byte == single_quote) ≡ quote
    → before_end (single_quote ∷ digits ++ single_quote ∷ byte ∷ rest)
    ≡ 2 + length digits + before_end (byte ∷ rest)
digits-by digits byte rest true all e =
    subst (λ (b : ℕ). before_end (single_quote ∷ digits ++ single_quote ∷ b ∷ rest)
    ≡ 2 + length digits + before_end (b ∷ rest)) (sym (eqb-true byte single_quote e))
    (doubled-by digits rest (quote_end single_quote 0 rest) all refl)
digits-by digits byte rest false all e =
    let last = single_quote ∷ [] in
    let len = string-len (single_quote ∷ digits ++ last) (byte ∷ rest) (
      single_quote,
      digits,
      inl refl,
      refl,
      digits-content digits all,
      eqb-false byte single_quote e,
    ) in
    omega (
      arith,
      len,
      ap (λ (l : List ℕ). before_end (single_quote ∷ l)) (append_assoc digits last (byte ∷ rest)),
      length-append digits last,
    )

digits-len : (digits left : List ℕ) → AreAll is_ascii_hexdigit digits
    → before_end (single_quote ∷ digits ++ single_quote ∷ left)
    ≡ 2 + length digits + before_end left
digits-len digits [] all =
    let last = single_quote ∷ [] in
    let len = string-len (single_quote ∷ digits ++ last) []
    (single_quote, digits, inl refl, refl, digits-content digits all, tt) in
    omega (
      arith,
      len,
      ap (λ (l : List ℕ). before_end (single_quote ∷ l)) (append_assoc digits last []),
      length-append digits last,
    )
digits-len digits (byte ∷ rest) all = digits-by digits byte rest (byte == single_quote) all refl

-- A token

minus-other : (left : List ℕ) → (OpensLine (dash ∷ left) → ⊥)
    → element_of dash left ≡ element_with Other 1
unfolding element_of
minus-other left never =
    let line = refuted (opens_line dash left) (λ e. never (line_said dash left e)) in rw line refl

mark-len : (symbol : Symbol) (left : List ℕ) → (OpensLine (mark_text symbol ++ left) → ⊥)
    → before_end (mark_text symbol ++ left) ≡ length (mark_text symbol) + before_end left
mark-len Minus left never = other-len dash left (minus-other left never)
mark-len LeftParen left never = run-len (mark_text LeftParen) left (refl, tt)
mark-len RightParen left never = run-len (mark_text RightParen) left (refl, tt)
mark-len Comma left never = run-len (mark_text Comma) left (refl, tt)
mark-len Dot left never = run-len (mark_text Dot) left (refl, tt)
mark-len Star left never = run-len (mark_text Star) left (refl, tt)
mark-len Plus left never = run-len (mark_text Plus) left (refl, tt)
mark-len Percent left never = run-len (mark_text Percent) left (refl, tt)
mark-len Eq left never = run-len (mark_text Eq) left (refl, tt)
mark-len Ne left never = run-len (mark_text Ne) left (refl, (refl, tt))
mark-len NeBang left never = run-len (mark_text NeBang) left (refl, (refl, tt))
mark-len Lt left never = run-len (mark_text Lt) left (refl, tt)
mark-len Le left never = run-len (mark_text Le) left (refl, (refl, tt))
mark-len Gt left never = run-len (mark_text Gt) left (refl, tt)
mark-len Ge left never = run-len (mark_text Ge) left (refl, (refl, tt))
mark-len NullEq left never = run-len (mark_text NullEq) left (refl, (refl, (refl, tt)))

-- The statement's end is as far behind these bytes as it is behind the token.
abbrev Keeps : (taken left : List ℕ) → Type 0
Keeps taken left = before_end (taken ++ left) ≡ length taken + before_end left

keeps-as : (taken other left : List ℕ) → taken ≡ other → Keeps other left → Keeps taken left
keeps-as taken other left e h = subst (λ (l : List ℕ). Keeps l left) (sym e) h

keeps-letter : (letter : ℕ) (rest left : List ℕ) → is_unlike letter ≡ true → Keeps rest left
    → Keeps (letter ∷ rest) left
keeps-letter letter rest left e h =
    omega (arith, other-len letter (rest ++ left) (unlike-other letter (rest ++ left) e), h)

keeps-digits : (digits left : List ℕ) → AreAll is_ascii_hexdigit digits
    → Keeps (single_quote ∷ digits ++ single_quote ∷ []) left
keeps-digits digits left all =
    let last = single_quote ∷ [] in
    omega (
      arith,
      digits-len digits left all,
      ap (λ (l : List ℕ). before_end (single_quote ∷ l)) (append_assoc digits last left),
      length-append digits last,
    )

name-unlike : (taken : List ℕ) (h : IsName taken)
    → AreAll is_unlike (backquote ∷ h.0 ∷ h.1 ++ backquote ∷ [])
name-unlike taken h = (
  refl,
  all-joined (h.0 ∷ h.1) (backquote ∷ [])
      (all-of continues_word word-unlike (h.0 ∷ h.1) h.4) (refl, tt),
)

keeps : (shape : Shape) (taken left : List ℕ) → IsSpelled shape taken left
    → (OpensLine (taken ++ left) → ⊥) → Keeps taken left
keeps Word taken left h never = keeps-as taken (h.0 ∷ h.1) left h.2 (run-len (h.0 ∷ h.1) left
    (begins-unlike h.0 h.3, all-of continues_word word-unlike h.1 h.4))
keeps Name taken left h never =
    let name = backquote ∷ h.0 ∷ h.1 ++ backquote ∷ [] in
    keeps-as taken name left h.2 (run-len name left (name-unlike taken h))
keeps (Int number) taken left h never =
    run-len taken left (all-of is_ascii_digit digit-unlike taken h.1)
keeps Str taken left h never = string-len taken left h
keeps National taken left h never = keeps-as taken (h.0 ∷ single_quote ∷ h.1) left h.2
    (keeps-letter h.0 (single_quote ∷ h.1) left (n-unlike h.0 h.3)
    (string-len (single_quote ∷ h.1) left h.4))
keeps HexString taken left h never = keeps-as taken _ left h.2
    (keeps-letter h.0 (single_quote ∷ h.1 ++ single_quote ∷ []) left (x-unlike h.0 h.3)
    (keeps-digits h.1 left h.4))
keeps HexNumber taken left h never = keeps-as taken (digit_zero ∷ small_x ∷ h.0) left h.1
    (run-len (digit_zero ∷ small_x ∷ h.0) left
    (refl, (refl, all-of is_ascii_hexdigit hexdigit-unlike h.0 h.3)))
keeps (Sym symbol) taken left h never = keeps-as taken (mark_text symbol) left h.taken_is
    (mark-len symbol left (subst (λ (l : List ℕ). OpensLine (l ++ left) → ⊥) h.taken_is never))

token-len : (taken left : List ℕ) (says : Lexeme) → IsToken taken left says → Keeps taken left
token-len taken left says h = keeps h.shape taken left h.is_spelled h.no_comment

-- Up to a place

blanks-keep : (blanks : List Element) (from : ℕ) (bytes : List ℕ) (to : ℕ) (behind : List ℕ)
    → AreBlanks blanks from bytes to behind → from + before_end bytes ≡ to + before_end behind
blanks-keep [] from bytes to behind h = omega (arith, h.0, ap before_end h.1)
blanks-keep (blank ∷ blanks) from bytes to behind h = omega (
  arith,
  part-len bytes blank h.0 h.2 (blank-kind blank.kind h.1),
  blanks-keep blanks (from + blank.len) h.0 to behind h.3,
)

cover-keeps : (at : ℕ) (bytes : List ℕ) (tokens : List Token) (to : ℕ) (behind : List ℕ)
    → Cover at bytes tokens to behind → at + before_end bytes ≡ to + before_end behind
cover-keeps at bytes [] to behind h = blanks-keep h.0 at bytes to behind h.1
cover-keeps at bytes (token ∷ tokens) to behind h =
    let b = h.1 in
    omega (
      arith,
      blanks-keep b.blanks at bytes token.span.start (b.spelled ++ h.0) b.are_blanks,
      token-len b.spelled h.0 token.kind b.is_token,
      b.end_is,
      cover-keeps token.span.end h.0 tokens to behind h.2,
    )

-- What begins at a place that is reached ends within the statement.
pub ends-within : (end at : ℕ) (bytes : List ℕ) (tokens : List Token) (place : ℕ)
    (behind : List ℕ) → end ≡ at + before_end bytes → Cover at bytes tokens place behind
    → EndsWithin end place behind
ends-within end at bytes tokens place behind e cover =
    let reached = cover-keeps at bytes tokens place behind cover in
    record {
      blanks = λ blank left one takes. omega (
        arith,
        e,
        reached,
        part-len behind blank left takes (blank-kind blank.kind one),
      );
      tokens = λ spelled left says whole is. omega (
        arith,
        e,
        reached,
        ap before_end whole,
        token-len spelled left says is,
      );
    }
