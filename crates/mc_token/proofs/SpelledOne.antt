-- The spelling of a token is the one found.
use Rattle.std.proofs.Common.{◌≡◌, ◌≢◌, ℕ, ℤ, ◌+◌, ◌<◌, ◌≤◌, ◌%◌, ◌==◌, ◌||◌, ◌&&◌, Bool, true, false, inl, inr, List, [], ◌∷◌, ◌++◌, Option, Some, None, length, drop, get_or, ltb, leb, refl, ap, sym, subst, append_assoc, length-append, ◌∙◌, arith}
use Rattle.std.specs.Prelude.{option_map}
use Rattle.std.specs.Char.{is_ascii_digit, is_ascii_hexdigit}
use Rattle.std.proofs.Math.Seq.{take-append_seam}
use Rattle.std.proofs.lemmas.Bool.Decides.{nat_tests}
use Rattle.mc_token.specs.Bytes.{begins_word, continues_word, is_letter_n, is_letter_x, small_x, digit_zero, single_quote, double_quote, backquote}
use Rattle.mc_token.specs.Elements.{quote_end}
use Rattle.mc_token.specs.Hexadecimal.{digits_len}
use Rattle.mc_token.specs.Strings.{IsQuote, IsString}
use Rattle.mc_token.specs.Marks.{mark_text, IsMark}
use Rattle.mc_token.specs.Numbers.{decimals_len, int_of}
use Rattle.mc_token.specs.Spellings.{word_len, opens_single, opens_hex, string_spelling, hex_string_spelling, hex_number_spelling, int_spelling, closes_name, name_spelling, mark_spelling, spelling_of}
use Rattle.mc_token.specs.Spelled.{AreAll, EndOrNo, OpensPrefixed, name_limit, IsWord, IsName, IsInt, IsNational, IsHexString, IsHexNumber, IsSpelled}
use Rattle.mc_token.specs.declared.lexeme.Symbol.{Symbol}
use Rattle.mc_token.specs.declared.lexeme.Symbol.TheVariants.{LeftParen, RightParen, Comma, Dot, Star, Plus, Minus, Percent, Eq, Ne, NeBang, Lt, Le, Gt, Ge, NullEq}
use Rattle.mc_token.specs.declared.spelling.Spelling.{Spelling}
use Rattle.mc_token.specs.declared.spelling.Shape.{Shape}
use Rattle.mc_token.specs.declared.spelling.Shape.TheVariants.{Word, Name, Int, Str, National, HexString, HexNumber, Sym}
use Rattle.mc_token.proofs.CutStrings.{string_is}
use Rattle.mc_token.proofs.CutElements.{not_backslash}
use Rattle.mc_token.proofs.CutOpenings.{same_first}
use Rattle.mc_token.proofs.SpelledFound.{letter-opens}
use Rattle.mc_token.proofs.Marks.{mark_at, mark_first, mark_is}
use Rattle.mc_token.proofs.SpelledRuns.{run_is, no_first, get_or-run}

abbrev pub spelling_with : Shape → ℕ → Spelling
spelling_with shape len = record { shape = shape; len = len }

-- The bytes taken are the spelling found before what is behind them.
pub record Longest (shape : Shape) (taken behind : List ℕ) : Type 0 where
  pub first : ℕ
  pub others : List ℕ
  pub begins : taken ++ behind ≡ first ∷ others
  pub longest : spelling_of first others ≡ Some (spelling_with shape (length taken))

-- the same spelling, its length counted otherwise
same_len : (shape : Shape) (found : Option Spelling) (len count : ℕ)
    → found ≡ Some (spelling_with shape len) → len ≡ count
    → found ≡ Some (spelling_with shape count)
same_len shape found len count e same = e ∙ ap (λ n. Some (spelling_with shape n)) same

-- What a first byte finds

and_false : (b : Bool) → (b && false) ≡ false
and_false true = refl
and_false false = refl

by-not : (b : Bool) → (b ≡ true → ⊥) → b ≡ false
by-not true never = absurd (never refl)
by-not false never = refl

or_left : (a b : Bool) → a ≡ true → (a || b) ≡ true
or_left true b e = refl
or_left false b e = absurd (cc)

or_right : (a b : Bool) → b ≡ true → (a || b) ≡ true
or_right true b e = refl
or_right false b e = e

found-word : (first : ℕ) (others : List ℕ) → (OpensPrefixed (first ∷ others) → ⊥)
    → begins_word first ≡ true
    → spelling_of first others ≡ Some (spelling_with Word (1 + word_len others))
unfolding spelling_of
found-word first others never word =
    let n_no : (is_letter_n first && opens_single others) ≡ false =
    by-not (is_letter_n first && opens_single others) (λ e.
    let n = letter-opens others (is_letter_n first) e in
    never (
      first,
      drop 1 others,
      ap (λ l. first ∷ l) n.1,
      or_left (is_letter_n first) (is_letter_x first) n.0,
    )) in
    let x_no : (is_letter_x first && opens_single others) ≡ false =
    by-not (is_letter_x first && opens_single others) (λ e.
    let x = letter-opens others (is_letter_x first) e in
    never (
      first,
      drop 1 others,
      ap (λ l. first ∷ l) x.1,
      or_right (is_letter_n first) (is_letter_x first) x.0,
    )) in
    rw (word, n_no, x_no) refl

found-national : (letter : ℕ) (rest : List ℕ) → is_letter_n letter ≡ true
    → spelling_of letter (single_quote ∷ rest)
    ≡ string_spelling National 2 (quote_end single_quote 0 rest)
unfolding spelling_of
found-national letter rest n =
    let word : begins_word letter ≡ true = grind (arith, nat_tests) in rw (word, n) refl

found-hex_string : (letter : ℕ) (rest : List ℕ) → is_letter_x letter ≡ true
    → spelling_of letter (single_quote ∷ rest) ≡ hex_string_spelling rest
unfolding spelling_of
found-hex_string letter rest x =
    let n : is_letter_n letter ≡ false = grind (arith, nat_tests) in
    let word : begins_word letter ≡ true = grind (arith, nat_tests) in
    rw (word, n, x) refl

found-string : (quote : ℕ) (rest : List ℕ) → IsQuote quote
    → spelling_of quote rest ≡ string_spelling Str 1 (quote_end quote 0 rest)
unfolding spelling_of
found-string quote rest (inl e) = rw e refl
found-string quote rest (inr e) = rw e refl

found-hex : (rest : List ℕ) → spelling_of digit_zero (small_x ∷ rest) ≡ hex_number_spelling rest
unfolding spelling_of
found-hex rest = refl

-- a digit begins no word and no string
record NoOther (first : ℕ) : Type 0 where
  no_word : begins_word first ≡ false
  no_quote : (first == single_quote || first == double_quote) ≡ false

digit-other : (first : ℕ) → is_ascii_digit first ≡ true → NoOther first
digit-other first e = record {
  no_word = grind (arith, nat_tests);
  no_quote = grind (arith, nat_tests);
}

found-int : (first : ℕ) (rest : List ℕ) → is_ascii_digit first ≡ true → opens_hex rest ≡ false
    → spelling_of first rest ≡ int_spelling first rest
unfolding spelling_of
found-int first rest digit no_hex =
    let o = digit-other first digit in
    rw (o.no_word, o.no_quote, digit, no_hex, and_false (first == digit_zero)) refl

found-name : (rest : List ℕ) → spelling_of backquote rest ≡ name_spelling rest
unfolding spelling_of
found-name rest = refl

abbrev spelling_at : List ℕ → Option Spelling
spelling_at [] = None
spelling_at (first ∷ others) = spelling_of first others

abbrev mark_spelling_at : List ℕ → Option Spelling
mark_spelling_at [] = None
mark_spelling_at (first ∷ others) = mark_spelling first others

found-mark : (symbol : Symbol) (rest : List ℕ)
    → spelling_at (mark_text symbol ++ rest) ≡ mark_spelling_at (mark_text symbol ++ rest)
unfolding spelling_of
found-mark LeftParen rest = refl
found-mark RightParen rest = refl
found-mark Comma rest = refl
found-mark Dot rest = refl
found-mark Star rest = refl
found-mark Plus rest = refl
found-mark Minus rest = refl
found-mark Percent rest = refl
found-mark Eq rest = refl
found-mark Ne rest = refl
found-mark NeBang rest = refl
found-mark Lt rest = refl
found-mark Le rest = refl
found-mark Gt rest = refl
found-mark Ge rest = refl
found-mark NullEq rest = refl

-- The shapes

longest-word : (taken behind : List ℕ) → IsWord taken behind → Longest Word taken behind
longest-word taken behind h =
    let first = h.0 in
    let others = h.1 in
    let len : word_len (others ++ behind) ≡ length others =
    run_is continues_word others behind h.4 h.5 in
    let whole : taken ++ behind ≡ first ∷ (others ++ behind) =
    ap (λ l. l ++ behind) h.2 in
    record {
      first = first;
      others = others ++ behind;
      begins = whole;
      longest = same_len Word _ (1 + word_len (others ++ behind)) (length taken)
          (found-word first (others ++ behind) (subst (λ (l : List ℕ). OpensPrefixed l → ⊥) whole h.6)
          h.3) (omega (arith, len, ap length h.2));
    }

longest-string : (taken behind : List ℕ) → IsString taken behind → Longest Str taken behind
longest-string taken behind h =
    let quote = h.0 in
    let content = h.1 in
    let rest = content ++ quote ∷ behind in
    let assoc : (content ++ quote ∷ []) ++ behind ≡ rest =
    append_assoc content (quote ∷ []) behind in
    let count = length-append content (quote ∷ []) in
    let end = string_is quote 0 content behind (not_backslash quote h.2) h.4 h.5 in
    record {
      first = quote;
      others = rest;
      begins = ap (λ l. l ++ behind) h.3 ∙ ap (λ l. quote ∷ l) assoc;
      longest = same_len Str _ (1 + (0 + length content + 1)) (length taken)
          (found-string quote rest h.2 ∙ ap (string_spelling Str 1) end)
          (omega (arith, ap length h.3));
    }

longest-national : (taken behind : List ℕ) → IsNational taken behind
    → Longest National taken behind
longest-national taken behind h =
    let letter = h.0 in
    let string = h.1 in
    let e = h.2 in
    let n = h.3 in
    let quote = h.4.0 in
    let content = h.4.1 in
    let same = same_first single_quote quote string (content ++ quote ∷ []) h.4.3 in
    let rest = content ++ quote ∷ behind in
    let assoc : (content ++ quote ∷ []) ++ behind ≡ rest =
    append_assoc content (quote ∷ []) behind in
    let count = length-append content (quote ∷ []) in
    let end : quote_end single_quote 0 rest ≡ Some (0 + length content + 1) =
    ap (λ q. quote_end q 0 rest) same.0
    ∙ string_is quote 0 content behind (not_backslash quote h.4.2) h.4.4 h.4.5 in
    let inner : string ++ behind ≡ rest = ap (λ l. l ++ behind) same.1 ∙ assoc in
    record {
      first = letter;
      others = single_quote ∷ rest;
      begins = ap (λ l. l ++ behind) e ∙ ap (λ l. letter ∷ single_quote ∷ l) inner;
      longest = same_len National _ (2 + (0 + length content + 1)) (length taken)
          (found-national letter rest n ∙ ap (string_spelling National 2) end)
          (omega (arith, ap length e, ap length same.1));
    }

hex_string-is : (bytes : List ℕ) (len : ℕ) → digits_len bytes ≡ len → len % 2 ≡ 0
    → get_or bytes len 0 ≡ single_quote
    → hex_string_spelling bytes ≡ Some (spelling_with HexString (3 + len))
hex_string-is bytes len e even closes =
    let test : (len % 2 == 0 && get_or bytes len 0 == single_quote) ≡ true =
    grind (arith, nat_tests) in
    rw (e, test) refl

longest-hex_string : (taken behind : List ℕ) → IsHexString taken → Longest HexString taken behind
longest-hex_string taken behind h =
    let letter = h.0 in
    let digits = h.1 in
    let rest = digits ++ single_quote ∷ behind in
    let assoc : (digits ++ single_quote ∷ []) ++ behind ≡ rest =
    append_assoc digits (single_quote ∷ []) behind in
    let count = length-append digits (single_quote ∷ []) in
    let len : digits_len rest ≡ length digits =
    run_is is_ascii_hexdigit digits (single_quote ∷ behind) h.4 refl in
    let closes = get_or-run digits (single_quote ∷ behind) in
    record {
      first = letter;
      others = single_quote ∷ rest;
      begins = ap (λ l. l ++ behind) h.2 ∙ ap (λ l. letter ∷ single_quote ∷ l) assoc;
      longest = same_len HexString _ (3 + length digits) (length taken)
          (found-hex_string letter rest h.3 ∙ hex_string-is rest (length digits) len h.5 closes)
          (omega (arith, ap length h.2));
    }

no_digit : (byte : ℕ) → continues_word byte ≡ false → is_ascii_hexdigit byte ≡ false
no_digit byte e = grind (arith, nat_tests)

no_digits : (behind : List ℕ) → EndOrNo continues_word behind → EndOrNo is_ascii_hexdigit behind
no_digits [] e = tt
no_digits (byte ∷ behind) e = no_digit byte e

hex_number-is : (bytes : List ℕ) (len : ℕ) → digits_len bytes ≡ len → 0 < len
    → continues_word (get_or bytes len 0) ≡ false
    → hex_number_spelling bytes ≡ Some (spelling_with HexNumber (2 + len))
hex_number-is bytes len e some ends =
    let long : ltb 0 len ≡ true = grind (arith, nat_tests) in
    rw (e, long, ends) refl

some-digits : (digits : List ℕ) → digits ≢ [] → 0 < length digits
some-digits [] h = absurd (h refl)
some-digits (digit ∷ digits) h = omega arith

longest-hex_number : (taken behind : List ℕ) → IsHexNumber taken behind
    → Longest HexNumber taken behind
longest-hex_number taken behind h =
    let digits = h.0 in
    let rest = digits ++ behind in
    let len : digits_len rest ≡ length digits =
    run_is is_ascii_hexdigit digits behind h.3 (no_digits behind h.4) in
    let next : continues_word (get_or rest (length digits) 0) ≡ false =
    ap continues_word (get_or-run digits behind) ∙ no_first continues_word behind refl h.4 in
    record {
      first = digit_zero;
      others = small_x ∷ rest;
      begins = ap (λ l. l ++ behind) h.1;
      longest = same_len HexNumber _ (2 + length digits) (length taken)
          (found-hex rest
          ∙ hex_number-is rest (length digits) len (some-digits digits h.2) next)
          (omega (arith, ap length h.1));
    }

-- the first byte behind digits is no `x`
no_hex : (behind : List ℕ) → EndOrNo continues_word behind → opens_hex behind ≡ false
no_hex [] e = refl
no_hex (byte ∷ behind) e = grind (arith, nat_tests)

digit-no_hex : (byte : ℕ) → is_ascii_digit byte ≡ true → (byte == small_x) ≡ false
digit-no_hex byte e = grind (arith, nat_tests)

digits-no_hex : (digits behind : List ℕ) → AreAll is_ascii_digit digits
    → EndOrNo continues_word behind → opens_hex (digits ++ behind) ≡ false
digits-no_hex [] behind all e = no_hex behind e
digits-no_hex (byte ∷ digits) behind all e = digit-no_hex byte all.0

no_decimal : (byte : ℕ) → continues_word byte ≡ false → is_ascii_digit byte ≡ false
no_decimal byte e = grind (arith, nat_tests)

no_decimals : (behind : List ℕ) → EndOrNo continues_word behind → EndOrNo is_ascii_digit behind
no_decimals [] e = tt
no_decimals (byte ∷ behind) e = no_decimal byte e

int-is : (first : ℕ) (digits behind : List ℕ) (number : ℤ)
    → decimals_len (digits ++ behind) ≡ length digits → int_of (first ∷ digits) ≡ Some number
    → continues_word (get_or (digits ++ behind) (length digits) 0) ≡ false
    → int_spelling first (digits ++ behind) ≡ Some (spelling_with (Int number) (1 + length digits))
int-is first digits behind number len e ends =
    let taken = take-append_seam digits behind in
    rw (len, ends, taken, e) refl

longest-int : (number : ℤ) (taken behind : List ℕ) → IsInt number taken behind
    → Longest (Int number) taken behind
longest-int number [] behind h = absurd (h.0 refl)
longest-int number (first ∷ digits) behind h =
    let rest = digits ++ behind in
    let len : decimals_len rest ≡ length digits =
    run_is is_ascii_digit digits behind h.1.1 (no_decimals behind h.3) in
    let next : continues_word (get_or rest (length digits) 0) ≡ false =
    ap continues_word (get_or-run digits behind) ∙ no_first continues_word behind refl h.3 in
    record {
      first = first;
      others = rest;
      begins = refl;
      longest = same_len (Int number) _ (1 + length digits) (length (first ∷ digits))
          (found-int first rest h.1.0 (digits-no_hex digits behind h.1.1 h.3)
          ∙ int-is first digits behind number len h.2 next)
          (omega arith);
    }

name-closes : (len : ℕ) (bytes : List ℕ) → 0 < len → len ≤ name_limit
    → is_ascii_digit (get_or bytes 0 0) ≡ false → get_or bytes len 0 ≡ backquote
    → closes_name len bytes ≡ true
name-closes len bytes some few no_digit closes =
    let long : ltb 0 len ≡ true = grind (arith, nat_tests) in
    let short : leb len name_limit ≡ true = grind (arith, nat_tests) in
    rw (long, short, no_digit, closes) refl

name-is : (bytes : List ℕ) (len : ℕ) → word_len bytes ≡ len → closes_name len bytes ≡ true
    → name_spelling bytes ≡ Some (spelling_with Name (2 + len))
name-is bytes len e closes = rw (e, closes) refl

longest-name : (taken behind : List ℕ) → IsName taken → Longest Name taken behind
longest-name taken behind h =
    let name = h.0 ∷ h.1 in
    let rest = name ++ backquote ∷ behind in
    let assoc : (name ++ backquote ∷ []) ++ behind ≡ rest =
    append_assoc name (backquote ∷ []) behind in
    let count = length-append name (backquote ∷ []) in
    let len : word_len rest ≡ length name =
    run_is continues_word name (backquote ∷ behind) h.4 refl in
    let last : get_or rest (length name) 0 ≡ backquote = get_or-run name (backquote ∷ behind) in
    let closes = name-closes (length name) rest (omega arith) h.5 h.3 last in
    record {
      first = backquote;
      others = rest;
      begins = ap (λ l. l ++ behind) h.2 ∙ ap (λ l. backquote ∷ l) assoc;
      longest = same_len Name _ (2 + length name) (length taken)
          (found-name rest ∙ name-is rest (length name) len closes)
          (omega (arith, ap length h.2));
    }

longest-mark : (symbol : Symbol) (taken behind : List ℕ) → IsMark symbol taken behind
    → Longest (Sym symbol) taken behind
longest-mark symbol taken behind h =
    let m = mark_first symbol in
    let whole : mark_text symbol ++ behind ≡ m.first ∷ (m.others ++ behind) =
    ap (λ l. l ++ behind) m.text_is in
    let found : mark_spelling m.first (m.others ++ behind)
    ≡ Some (spelling_with (Sym symbol) (length (mark_text symbol))) =
    ap (option_map (λ s. spelling_with (Sym s) (length (mark_text s))))
    (ap mark_at (sym whole) ∙ mark_is symbol taken behind h) in
    record {
      first = m.first;
      others = m.others ++ behind;
      begins = ap (λ l. l ++ behind) h.taken_is ∙ whole;
      longest = same_len (Sym symbol) _ (length (mark_text symbol)) (length taken)
          (ap spelling_at (sym whole) ∙ found-mark symbol behind ∙ ap mark_spelling_at whole
          ∙ found) (sym (ap length h.taken_is));
    }

-- The spelling of a token is the one found.
pub longest : (shape : Shape) (taken behind : List ℕ) → IsSpelled shape taken behind
    → Longest shape taken behind
longest Word taken behind h = longest-word taken behind h
longest Str taken behind h = longest-string taken behind h
longest National taken behind h = longest-national taken behind h
longest HexString taken behind h = longest-hex_string taken behind h
longest HexNumber taken behind h = longest-hex_number taken behind h
longest (Sym symbol) taken behind h = longest-mark symbol taken behind h
longest Name taken behind h = longest-name taken behind h
longest (Int number) taken behind h = longest-int number taken behind h
