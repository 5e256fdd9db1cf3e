-- The spelling found is that of a token.
use Rattle.std.proofs.Common.{◌≡◌, ◌≢◌, ℕ, ℤ, ◌+◌, ◌<◌, ◌≤◌, ◌%◌, ◌==◌, ◌||◌, ◌&&◌, not, Bool, true, false, inl, inr, List, [], ◌∷◌, ◌++◌, Option, Some, None, length, take, drop, get_or, ltb, leb, refl, ap, sym, subst, subst₂, append_assoc, length-append, ◌∙◌, arith}
use Rattle.std.specs.Prelude.{option_map}
use Rattle.std.specs.Char.{is_ascii_digit, is_ascii_hexdigit}
use Rattle.std.proofs.lemmas.Bool.{eqb-true}
use Rattle.std.proofs.lemmas.Bool.Decides.{nat_tests}
use Rattle.std.proofs.lemmas.Option.{same_Some}
use Rattle.std.proofs.Math.Seq.{take-append_seam, drop-append_seam}
use Rattle.mc_token.specs.Bytes.{begins_word, continues_word, is_letter_n, is_letter_x, small_x, digit_zero, single_quote, double_quote, backquote}
use Rattle.mc_token.specs.Elements.{quote_end}
use Rattle.mc_token.specs.Hexadecimal.{digits_len}
use Rattle.mc_token.specs.Marks.{mark_text, mark_of}
use Rattle.mc_token.specs.Numbers.{decimals_len, int_of}
use Rattle.mc_token.specs.Spellings.{word_len, opens_single, opens_hex, string_spelling, hex_string_spelling, hex_number_spelling, int_spelling, number_spelling, closes_name, name_spelling, mark_spelling, other_spelling, letter_spelling, spelling_of}
use Rattle.mc_token.specs.Spelled.{AreAll, OpensPrefixed, name_limit, IsSpelled}
use Rattle.mc_token.specs.declared.lexeme.Symbol.{Symbol}
use Rattle.mc_token.specs.declared.spelling.Spelling.{Spelling}
use Rattle.mc_token.specs.declared.spelling.Shape.TheVariants.{Word, Name, Int, Str, National, HexString, HexNumber, Sym}
use Rattle.mc_token.proofs.Choices.{which}
use Rattle.mc_token.proofs.CutStrings.{string_closes}
use Rattle.mc_token.proofs.CutElements.{string_of}
use Rattle.mc_token.proofs.CutOpenings.{same_first, quote_said}
use Rattle.mc_token.proofs.CutParts.{both_true}
use Rattle.mc_token.proofs.Marks.{mark_begins, mark_longest}
use Rattle.mc_token.proofs.SpelledRuns.{run_of, end_or_no, get_or-run, first_of}

-- A token of this spelling begins the bytes.
pub record Front (bytes : List ℕ) (spelling : Spelling) : Type 0 where
  pub taken : List ℕ
  pub behind : List ℕ
  pub bytes_are : bytes ≡ taken ++ behind
  pub len_is : spelling.len ≡ length taken
  pub is_spelled : IsSpelled spelling.shape taken behind

pub front_spelled : (bytes : List ℕ) (spelling : Spelling) → Front bytes spelling
    → IsSpelled spelling.shape (take spelling.len bytes) (drop spelling.len bytes)
front_spelled bytes spelling f =
    let taken : take spelling.len bytes ≡ f.taken = ap (λ n. take n bytes) f.len_is
    ∙ ap (take (length f.taken)) f.bytes_are ∙ take-append_seam f.taken f.behind in
    let behind : drop spelling.len bytes ≡ f.behind = ap (λ n. drop n bytes) f.len_is
    ∙ ap (drop (length f.taken)) f.bytes_are ∙ drop-append_seam f.taken f.behind in
    subst₂ (IsSpelled spelling.shape) (sym taken) (sym behind) f.is_spelled

-- The letter before a quote

pub letter-opens : (bytes : List ℕ) (is_letter : Bool)
    → (is_letter && opens_single bytes) ≡ true
    → (is_letter ≡ true) × (bytes ≡ single_quote ∷ drop 1 bytes)
letter-opens bytes true e = (
  refl,
  first_of bytes single_quote (eqb-true (get_or bytes 0 0) single_quote e) (omega arith),
)
letter-opens bytes false e = absurd (cc)

no-letter : (is_letter : Bool) (bytes rest : List ℕ) → (is_letter && opens_single bytes) ≡ false
    → bytes ≡ single_quote ∷ rest → is_letter ≡ false
no-letter true bytes rest e same =
    let opens : opens_single bytes ≡ true = ap (λ l. opens_single l) same in absurd (cc)
no-letter false bytes rest e same = refl

neither : (n x : Bool) → n ≡ false → x ≡ false → (n || x) ≡ true → ⊥
neither true x n_no x_no e = cc
neither false true n_no x_no e = cc
neither false false n_no x_no e = cc

no-prefix : (first : ℕ) (others : List ℕ) → (is_letter_n first && opens_single others) ≡ false
    → (is_letter_x first && opens_single others) ≡ false → OpensPrefixed (first ∷ others) → ⊥
no-prefix first others n x h =
    let same = same_first first h.0 others (single_quote ∷ h.1) h.2 in
    neither (is_letter_n first) (is_letter_x first)
    (no-letter (is_letter_n first) others h.1 n same.1)
    (no-letter (is_letter_x first) others h.1 x same.1)
    (ap (λ b. is_letter_n b || is_letter_x b) same.0 ∙ h.3)

-- The shapes

front-word : (first : ℕ) (others : List ℕ) (spelling : Spelling)
    → (OpensPrefixed (first ∷ others) → ⊥) → begins_word first ≡ true
    → Some (record { shape = Word; len = 1 + word_len others }) ≡ Some spelling
    → Front (first ∷ others) spelling
front-word first others spelling no_prefix word s =
    let r = run_of continues_word others in
    let whole : first ∷ others ≡ (first ∷ r.run) ++ r.behind = ap (λ l. first ∷ l) r.bytes_are in
    let same = same_Some (record { shape = Word; len = 1 + word_len others }) spelling s in
    subst (Front (first ∷ others)) same (record {
      taken = first ∷ r.run;
      behind = r.behind;
      bytes_are = whole;
      len_is = omega (arith, r.len_is);
      is_spelled = (
        first,
        r.run,
        refl,
        word,
        r.are_all,
        r.ends,
        subst (λ (l : List ℕ). OpensPrefixed l → ⊥) whole no_prefix,
      );
    })

front-string : (first : ℕ) (others : List ℕ) (found : Option ℕ) (spelling : Spelling)
    → (first == single_quote || first == double_quote) ≡ true → quote_end first 0 others ≡ found
    → string_spelling Str 1 found ≡ Some spelling → Front (first ∷ others) spelling
front-string first others None spelling quote e s = absurd (cc)
front-string first others (Some end) spelling quote e s =
    let c = string_closes first 0 others end e in
    let parts = string_of first others end (quote_said first quote) c in
    let count = length-append c.content (first ∷ []) in
    let same = same_Some (record { shape = Str; len = 1 + end }) spelling s in
    subst (Front (first ∷ others)) same (record {
      taken = first ∷ c.content ++ first ∷ [];
      behind = c.behind;
      bytes_are = parts.0;
      len_is = omega (arith, c.end_is);
      is_spelled = parts.1;
    })

front-national : (first : ℕ) (rest : List ℕ) (found : Option ℕ) (spelling : Spelling)
    → is_letter_n first ≡ true → quote_end single_quote 0 rest ≡ found
    → string_spelling National 2 found ≡ Some spelling
    → Front (first ∷ single_quote ∷ rest) spelling
front-national first rest None spelling letter e s = absurd (cc)
front-national first rest (Some end) spelling letter e s =
    let c = string_closes single_quote 0 rest end e in
    let parts = string_of single_quote rest end (inl refl) c in
    let count = length-append c.content (single_quote ∷ []) in
    let same = same_Some (record { shape = National; len = 2 + end }) spelling s in
    subst (Front (first ∷ single_quote ∷ rest)) same (record {
      taken = first ∷ single_quote ∷ c.content ++ single_quote ∷ [];
      behind = c.behind;
      bytes_are = ap (λ l. first ∷ l) parts.0;
      len_is = omega (arith, c.end_is);
      is_spelled = (first, c.content ++ single_quote ∷ [], refl, letter, parts.1);
    })

front-hex_string : (first : ℕ) (rest : List ℕ) (spelling : Spelling) → is_letter_x first ≡ true
    → hex_string_spelling rest ≡ Some spelling → Front (first ∷ single_quote ∷ rest) spelling
front-hex_string first rest spelling letter s =
    let digits = digits_len rest in
    elim (which (digits % 2 == 0 && get_or rest digits 0 == single_quote) _ _ _ s) [
      | inl w ↦
          let r = run_of is_ascii_hexdigit rest in
          let even : digits % 2 ≡ 0 = grind (arith, nat_tests, w.0) in
          let closes : get_or rest digits 0 ≡ single_quote = grind (arith, nat_tests, w.0) in
          let quoted : get_or r.behind 0 0 ≡ single_quote = sym (get_or-run r.run r.behind)
          ∙ ap (λ l. get_or l (length r.run) 0) (sym r.bytes_are)
          ∙ ap (λ n. get_or rest n 0) (sym r.len_is) ∙ closes in
          let last = first_of r.behind single_quote quoted (omega arith) in
          let assoc = append_assoc r.run (single_quote ∷ []) (drop 1 r.behind) in
          let count = length-append r.run (single_quote ∷ []) in
          let same = same_Some (record { shape = HexString; len = 3 + digits }) spelling w.1 in
          subst (Front (first ∷ single_quote ∷ rest)) same (record {
            taken = first ∷ single_quote ∷ r.run ++ single_quote ∷ [];
            behind = drop 1 r.behind;
            bytes_are = ap (λ l. first ∷ single_quote ∷ l) (r.bytes_are
                ∙ ap (λ l. r.run ++ l) last ∙ sym assoc);
            len_is = omega (arith, r.len_is);
            is_spelled = (
              first,
              r.run,
              refl,
              letter,
              r.are_all,
              ap (λ n. n % 2) (sym r.len_is) ∙ even,
            );
          })
      | inr w ↦ absurd (cc)
    ]

some-run : (run : List ℕ) (len : ℕ) → len ≡ length run → 0 < len → run ≢ []
some-run [] len e some none = absurd (omega arith)
some-run (byte ∷ run) len e some none = absurd (cc)

front-hex_number : (rest : List ℕ) (spelling : Spelling)
    → 0 < digits_len rest → continues_word (get_or rest (digits_len rest) 0) ≡ false
    → Some (record { shape = HexNumber; len = 2 + digits_len rest }) ≡ Some spelling
    → Front (digit_zero ∷ small_x ∷ rest) spelling
front-hex_number rest spelling some ends s =
    let digits = digits_len rest in
    let r = run_of is_ascii_hexdigit rest in
    let next : get_or rest digits 0 ≡ get_or r.behind 0 0 =
    ap (λ n. get_or rest n 0) r.len_is ∙ ap (λ l. get_or l (length r.run) 0) r.bytes_are
    ∙ get_or-run r.run r.behind in
    let same = same_Some (record { shape = HexNumber; len = 2 + digits }) spelling s in
    subst (Front (digit_zero ∷ small_x ∷ rest)) same (record {
      taken = digit_zero ∷ small_x ∷ r.run;
      behind = r.behind;
      bytes_are = ap (λ l. digit_zero ∷ small_x ∷ l) r.bytes_are;
      len_is = omega (arith, r.len_is);
      is_spelled = (
        r.run,
        refl,
        some-run r.run digits r.len_is some,
        r.are_all,
        end_or_no continues_word r.behind
            (subst (λ b. continues_word b ≡ false) next ends),
      );
    })

negated : (b : Bool) → not b ≡ true → b ≡ false
negated true e = cc
negated false e = refl

front-hex : (first : ℕ) (others : List ℕ) (spelling : Spelling)
    → (first == digit_zero && opens_hex others) ≡ true
    → hex_number_spelling (drop 1 others) ≡ Some spelling → Front (first ∷ others) spelling
front-hex first others spelling opens s =
    let rest = drop 1 others in
    let digits = digits_len rest in
    let both = both_true (first == digit_zero) (opens_hex others) opens in
    let zero_is = eqb-true first digit_zero both.0 in
    let x : others ≡ small_x ∷ rest =
    first_of others small_x (eqb-true (get_or others 0 0) small_x both.1) (omega arith) in
    elim (which (ltb 0 digits && not (continues_word (get_or rest digits 0))) _ _ _ s) [
      | inl w ↦
          let all = both_true (ltb 0 digits) (not (continues_word (get_or rest digits 0))) w.0 in
          let some : 0 < digits = grind (arith, nat_tests, all.0) in
          subst₂ (λ (b : ℕ) (l : List ℕ). Front (b ∷ l) spelling) (sym zero_is) (sym x)
          (front-hex_number rest spelling some
          (negated (continues_word (get_or rest digits 0)) all.1) w.1)
      | inr w ↦ absurd (cc)
    ]

-- The run that the bytes begin with, and the byte behind it.
next-of : (bytes run behind : List ℕ) (len : ℕ) → bytes ≡ run ++ behind → len ≡ length run
    → get_or bytes len 0 ≡ get_or behind 0 0
next-of bytes run behind len whole count =
    ap (λ n. get_or bytes n 0) count ∙ ap (λ l. get_or l (length run) 0) whole
    ∙ get_or-run run behind

front-int_by : (first : ℕ) (others : List ℕ) (spelling : Spelling) (number : Option ℤ)
    → is_ascii_digit first ≡ true → int_of (first ∷ take (decimals_len others) others) ≡ number
    → continues_word (get_or others (decimals_len others) 0) ≡ false
    → option_map (λ n. record { shape = Int n; len = 1 + decimals_len others }) number
    ≡ Some spelling
    → Front (first ∷ others) spelling
front-int_by first others spelling None digit e ends s = absurd (cc)
front-int_by first others spelling (Some number) digit e ends s =
    let len = decimals_len others in
    let r = run_of is_ascii_digit others in
    let same = same_Some (record { shape = Int number; len = 1 + len }) spelling s in
    let taken : take len others ≡ r.run = ap (λ n. take n others) r.len_is
    ∙ ap (take (length r.run)) r.bytes_are ∙ take-append_seam r.run r.behind in
    let next = next-of others r.run r.behind len r.bytes_are r.len_is in
    subst (Front (first ∷ others)) same (record {
      taken = first ∷ r.run;
      behind = r.behind;
      bytes_are = ap (λ l. first ∷ l) r.bytes_are;
      len_is = omega (arith, r.len_is);
      is_spelled = (
        (λ none. absurd (cc)),
        (digit, r.are_all),
        ap (λ l. int_of (first ∷ l)) (sym taken) ∙ e,
        end_or_no continues_word r.behind (subst (λ b. continues_word b ≡ false) next ends),
      );
    })

front-int : (first : ℕ) (others : List ℕ) (spelling : Spelling) → is_ascii_digit first ≡ true
    → int_spelling first others ≡ Some spelling → Front (first ∷ others) spelling
front-int first others spelling digit s =
    elim (which (continues_word (get_or others (decimals_len others) 0)) _ _ _ s) [
      | inl w ↦ absurd (cc)
      | inr w ↦ front-int_by first others spelling _ digit refl w.0 w.1
    ]

front-number : (first : ℕ) (others : List ℕ) (spelling : Spelling) → is_ascii_digit first ≡ true
    → number_spelling first others ≡ Some spelling → Front (first ∷ others) spelling
front-number first others spelling digit s =
    elim (which (first == digit_zero && opens_hex others) _ _ _ s) [
      | inl w ↦ front-hex first others spelling w.0 w.1
      | inr w ↦ front-int first others spelling digit w.1
    ]

-- The tests of a name between backquotes.
record Named (len : ℕ) (others : List ℕ) : Type 0 where
  some : 0 < len
  few : len ≤ name_limit
  no_digit : is_ascii_digit (get_or others 0 0) ≡ false
  closes : get_or others len 0 ≡ backquote

named : (len : ℕ) (others : List ℕ) → closes_name len others ≡ true → Named len others
named len others e =
    let a = both_true (ltb 0 len && leb len name_limit && not (is_ascii_digit (get_or others 0 0)))
    (get_or others len 0 == backquote) e in
    let b = both_true (ltb 0 len && leb len name_limit) (not (is_ascii_digit (get_or others 0 0)))
    a.0 in
    let c = both_true (ltb 0 len) (leb len name_limit) b.0 in
    record {
      some = grind (arith, nat_tests, c.0);
      few = grind (arith, nat_tests, c.1);
      no_digit = negated (is_ascii_digit (get_or others 0 0)) b.1;
      closes = eqb-true (get_or others len 0) backquote a.1;
    }

-- a name with its first byte
name-by : (run behind : List ℕ) → 0 < length run → length run ≤ name_limit
    → is_ascii_digit (get_or (run ++ behind) 0 0) ≡ false → AreAll continues_word run
    → IsSpelled Name (backquote ∷ run ++ backquote ∷ []) behind
name-by [] behind some few no_digit all = absurd (omega arith)
name-by (first ∷ others) behind some few no_digit all =
    (first, others, refl, no_digit, all, few)

front-name : (others : List ℕ) (spelling : Spelling) → name_spelling others ≡ Some spelling
    → Front (backquote ∷ others) spelling
front-name others spelling s =
    let len = word_len others in
    elim (which (closes_name len others) _ _ _ s) [
      | inl w ↦
          let n = named len others w.0 in
          let r = run_of continues_word others in
          let quoted : get_or r.behind 0 0 ≡ backquote =
          sym (next-of others r.run r.behind len r.bytes_are r.len_is) ∙ n.closes in
          let last = first_of r.behind backquote quoted (omega arith) in
          let assoc = append_assoc r.run (backquote ∷ []) (drop 1 r.behind) in
          let count = length-append r.run (backquote ∷ []) in
          let same = same_Some (record { shape = Name; len = 2 + len }) spelling w.1 in
          let first : is_ascii_digit (get_or (r.run ++ r.behind) 0 0) ≡ false =
          subst (λ (l : List ℕ). is_ascii_digit (get_or l 0 0) ≡ false) r.bytes_are n.no_digit in
          subst (Front (backquote ∷ others)) same (record {
            taken = backquote ∷ r.run ++ backquote ∷ [];
            behind = drop 1 r.behind;
            bytes_are = ap (λ l. backquote ∷ l) (r.bytes_are ∙ ap (λ l. r.run ++ l) last
                ∙ sym assoc);
            len_is = omega (arith, r.len_is);
            is_spelled = name-by r.run r.behind (omega (arith, n.some, r.len_is))
                (omega (arith, n.few, r.len_is)) first r.are_all;
          })
      | inr w ↦ absurd (cc)
    ]

front-mark_by : (first : ℕ) (others : List ℕ) (spelling : Spelling) (found : Option Symbol)
    → mark_of first others ≡ found
    → option_map (λ symbol. record { shape = Sym symbol; len = length (mark_text symbol) }) found
    ≡ Some spelling
    → Front (first ∷ others) spelling
front-mark_by first others spelling None e s = absurd (cc)
front-mark_by first others spelling (Some symbol) e s =
    let b = mark_begins first others symbol e in
    let same = same_Some (record { shape = Sym symbol; len = length (mark_text symbol) })
    spelling s in
    subst (Front (first ∷ others)) same (record {
      taken = mark_text symbol;
      behind = b.behind;
      bytes_are = b.bytes_are;
      len_is = refl;
      is_spelled = record {
        taken_is = refl;
        longest = λ other rest whole. mark_longest first others symbol e other rest
            (b.bytes_are ∙ whole);
      };
    })

front-mark : (first : ℕ) (others : List ℕ) (spelling : Spelling)
    → mark_spelling first others ≡ Some spelling → Front (first ∷ others) spelling
front-mark first others spelling s = front-mark_by first others spelling _ refl s

front-letter : (first : ℕ) (others : List ℕ) (spelling : Spelling) → begins_word first ≡ true
    → letter_spelling first others ≡ Some spelling → Front (first ∷ others) spelling
front-letter first others spelling word s =
    elim (which (is_letter_n first && opens_single others) _ _ _ s) [
      | inl w ↦
          let n = letter-opens others (is_letter_n first) w.0 in
          subst (λ (l : List ℕ). Front (first ∷ l) spelling) (sym n.1)
          (front-national first (drop 1 others) _ spelling n.0 refl w.1)
      | inr w ↦ elim (which (is_letter_x first && opens_single others) _ _ _ w.1) [
        | inl v ↦
            let x = letter-opens others (is_letter_x first) v.0 in
            subst (λ (l : List ℕ). Front (first ∷ l) spelling) (sym x.1)
            (front-hex_string first (drop 1 others) spelling x.0 v.1)
        | inr v ↦ front-word first others spelling (no-prefix first others w.0 v.0) word v.1
      ]
    ]

front-other : (first : ℕ) (others : List ℕ) (spelling : Spelling)
    → other_spelling first others ≡ Some spelling → Front (first ∷ others) spelling
front-other first others spelling s = elim (which (is_ascii_digit first) _ _ _ s) [
  | inl w ↦ front-number first others spelling w.0 w.1
  | inr w ↦ elim (which (first == backquote) _ _ _ w.1) [
    | inl v ↦ subst (λ b. Front (b ∷ others) spelling)
        (sym (eqb-true first backquote v.0)) (front-name others spelling v.1)
    | inr v ↦ front-mark first others spelling v.1
  ]
]

-- The spelling found is that of a token.
pub front : (first : ℕ) (others : List ℕ) (spelling : Spelling)
    → spelling_of first others ≡ Some spelling → Front (first ∷ others) spelling
unfolding spelling_of
front first others spelling e = elim (which (begins_word first) _ _ _ e) [
  | inl w ↦ front-letter first others spelling w.0 w.1
  | inr w ↦ elim (which (first == single_quote || first == double_quote) _ _ _ w.1) [
    | inl v ↦ front-string first others _ spelling v.0 refl v.1
    | inr v ↦ front-other first others spelling v.1
  ]
]
