-- Some element begins at each byte.
use Rattle.std.proofs.Common.{◌≡◌, ◌≢◌, ℕ, ◌+◌, ◌==◌, Bool, true, false, ◌⊎◌, inl, inr, List, [], ◌∷◌, ◌++◌, length, Option, Some, None, refl, ap, sym, subst, ◌∙◌, append_assoc, append-nil}
use Rattle.std.proofs.lemmas.Bool.{eqb-true, eqb-false}
use Rattle.mc_token.specs.Bytes.{is_space, exclamation, star, slash, semicolon}
use Rattle.mc_token.specs.Elements.{opens_line, opens_block, block_end, quote_end}
use Rattle.mc_token.specs.declared.element.Kind.{Kind}
use Rattle.mc_token.specs.declared.element.Kind.TheVariants.{Space, Comment, Quoted, Unclosed, Semicolon, Other}
use Rattle.mc_token.specs.Comments.{EndOr, OpensLine, IsBlockComment}
use Rattle.mc_token.specs.Strings.{IsQuote, OpensString, IsString}
use Rattle.mc_token.specs.Cut.{IsElement}
use Rattle.mc_token.proofs.CutParts.{line_of, block_closes, block_is}
use Rattle.mc_token.proofs.CutStrings.{string_closes, string_is}
use Rattle.mc_token.proofs.CutOpenings.{string_opens, same_first, line_said, line_holds, block_said, block_test_holds, quote_said, quote_holds}
use Rattle.mc_token.proofs.CutElements.{string_of, block_of, opens_none, not_backslash}

-- An element begins these bytes.
pub record Part (bytes : List ℕ) : Type 0 where
  pub kind : Kind
  pub taken : List ℕ
  pub behind : List ℕ
  pub bytes_are : bytes ≡ taken ++ behind
  pub is_element : IsElement kind taken behind

string_has_end : (quote : ℕ) (rest taken behind : List ℕ) → quote ∷ rest ≡ taken ++ behind
    → IsString taken behind → (end : ℕ) × (quote_end quote 0 rest ≡ Some end)
string_has_end quote rest taken behind e h =
    let other = h.0 in
    let content = h.1 in
    let same = same_first quote other rest ((content ++ other ∷ []) ++ behind)
    (e ∙ ap (λ l. l ++ behind) h.3) in
    let assoc : (content ++ other ∷ []) ++ behind ≡ content ++ other ∷ behind =
    append_assoc content (other ∷ []) behind in (
      0 + length content + 1,
      ap (λ (q : ℕ). quote_end q 0 rest) same.0
          ∙ ap (λ (l : List ℕ). quote_end other 0 l) (same.1 ∙ assoc)
          ∙ string_is other 0 content behind (not_backslash other h.2) h.4 h.5,
    )

block_has_end : (rest taken behind : List ℕ) → slash ∷ star ∷ rest ≡ taken ++ behind
    → IsBlockComment taken behind → (end : ℕ) × (block_end 1 rest ≡ Some end)
block_has_end rest taken behind e h =
    let between = h.0 in
    let one = same_first slash slash (star ∷ rest) (star ∷ (between ++ star ∷ slash ∷ []) ++ behind)
    (e ∙ ap (λ l. l ++ behind) h.1) in
    let two = same_first star star rest ((between ++ star ∷ slash ∷ []) ++ behind) one.1 in
    let assoc : (between ++ star ∷ slash ∷ []) ++ behind ≡ between ++ star ∷ slash ∷ behind =
    append_assoc between (star ∷ slash ∷ []) behind in (
      1 + length between + 2,
      ap (λ (l : List ℕ). block_end 1 l) (two.1 ∙ assoc)
          ∙ block_is 1 between behind h.3,
    )

no_end : (found : Option ℕ) → found ≡ None → (end : ℕ) × (found ≡ Some end) → ⊥
no_end found e h = let same = h.1 in cc

string_part : (quote : ℕ) (rest : List ℕ) (found : Option ℕ) → quote_end quote 0 rest ≡ found
    → IsQuote quote → Part (quote ∷ rest)
string_part quote rest (Some end) e h =
    let c = string_closes quote 0 rest end e in
    let s = string_of quote rest end h c in
    record {
      kind = Quoted;
      taken = quote ∷ c.content ++ quote ∷ [];
      behind = c.behind;
      bytes_are = s.0;
      is_element = s.1;
    }
string_part quote rest None e h = record {
  kind = Unclosed;
  taken = quote ∷ rest;
  behind = [];
  bytes_are = sym (append-nil (quote ∷ rest));
  is_element = (
    inl (
      (quote, rest, h, refl),
      λ taken behind whole is. no_end (quote_end quote 0 rest)
          e (string_has_end quote rest taken behind whole is),
    ),
    refl,
  );
}

block_part : (rest : List ℕ) (found : Option ℕ) → block_end 1 rest ≡ found
    → EndOr (λ (byte : ℕ). byte ≢ exclamation) rest → Part (slash ∷ star ∷ rest)
block_part rest (Some end) e h =
    let c = block_closes 1 rest end e in
    let s = block_of rest end h c in
    record {
      kind = Comment;
      taken = slash ∷ star ∷ c.between ++ star ∷ slash ∷ [];
      behind = c.behind;
      bytes_are = s.0;
      is_element = inr s.1;
    }
block_part rest None e h = record {
  kind = Unclosed;
  taken = slash ∷ star ∷ rest;
  behind = [];
  bytes_are = sym (append-nil (slash ∷ star ∷ rest));
  is_element = (
    inr (
      (rest, refl, h),
      λ taken behind whole is. no_end (block_end 1 rest)
          e (block_has_end rest taken behind whole is),
    ),
    refl,
  );
}

line_part : (first : ℕ) (rest : List ℕ) → OpensLine (first ∷ rest) → Part (first ∷ rest)
line_part first rest h =
    let l = line_of rest in
    let whole : first ∷ rest ≡ (first ∷ l.line) ++ l.behind = ap (λ t. first ∷ t) l.bytes_are in
    record {
      kind = Comment;
      taken = first ∷ l.line;
      behind = l.behind;
      bytes_are = whole;
      is_element = inl (
        subst (λ (t : List ℕ). OpensLine t) whole h,
        ((λ e. opens_none (first ∷ rest) e h), l.has_none),
        l.ends,
      );
    }

one_byte : (kind : Kind) (first : ℕ) (rest : List ℕ) → IsElement kind (first ∷ []) rest
    → Part (first ∷ rest)
one_byte kind first rest h = record {
  kind = kind;
  taken = first ∷ [];
  behind = rest;
  bytes_are = refl;
  is_element = h;
}

true_or_false : (b : Bool) → (b ≡ true) ⊎ (b ≡ false)
true_or_false true = inl refl
true_or_false false = inr refl

not_both : (b : Bool) → b ≡ false → b ≡ true → ⊥
not_both b p q = cc

quote_first : (first : ℕ) (rest : List ℕ) → OpensString (first ∷ rest) → string_opens first ≡ true
quote_first first rest h =
    let same = same_first first h.0 rest h.1 h.3 in
    quote_holds first (subst IsQuote (sym same.0) h.2)

-- Some element begins at this byte.
pub part_of : (first : ℕ) (rest : List ℕ) → Part (first ∷ rest)
part_of first rest = elim (true_or_false (is_space first)) [
  | inl w ↦ one_byte Space first rest (first, refl, w)
  | inr w ↦ elim (true_or_false (first == semicolon)) [
    | inl v ↦ one_byte Semicolon first rest (ap (λ b. b ∷ []) (eqb-true first semicolon v))
    | inr v ↦ elim (true_or_false (opens_line first rest)) [
      | inl u ↦ line_part first rest (line_said first rest u)
      | inr u ↦ elim (true_or_false (opens_block first rest)) [
        | inl t ↦ let o = block_said first rest t in
            subst Part (sym o.1) (block_part o.0 (block_end 1 o.0) refl o.2)
        | inr t ↦ elim (true_or_false (string_opens first)) [
          | inl s ↦ string_part first rest (quote_end first 0 rest) refl (quote_said first s)
          | inr s ↦ one_byte Other first rest (
            first,
            refl,
            (
              w,
              eqb-false first semicolon v,
              (λ o. not_both (opens_line first rest) u (line_holds first rest o)),
              (λ o. not_both (opens_block first rest) t (block_test_holds first rest o)),
              (λ o. not_both (string_opens first) s (quote_first first rest o)),
            ),
          )
        ]
      ]
    ]
  ]
]
