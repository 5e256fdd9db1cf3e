-- What the kind of a token tells of its classes.
use Rattle.std.proofs.Common.{◌≡◌, ◌≢◌, inl, inr, refl, sym, ap, ◌∙◌, subst, ℕ, Bool, true, false}
use Rattle.std.proofs.Common.{not, ◌&&◌, ◌||◌, List, [], ◌∷◌, IsTrue, Option, Some, None, drop}
use Rattle.std.specs.Prelude.{is_none, is_some, option_map, find, nat_eq, map, cond, if◌then◌else◌}
use Rattle.std.specs.List.{list_any}
use Rattle.std.specs.Str.{bytes_eq}
use Rattle.std.proofs.lemmas.Option.{same_Some}
use Rattle.std.proofs.lemmas.Slice.Eq.{bytes_eq-Decides}
use Rattle.mc_charset.specs.Names.{named_sets, set_names}
use Rattle.mc_charset.specs.declared.charset.Charset.{Charset}
use Rattle.mc_base.specs.declared.span.Span.{Span}
use Rattle.mc_token.specs.Bytes.{underscore}
use Rattle.mc_token.specs.Kinds.{IsKind, IsNoKeyword, introduced_set, set_spelled}
use Rattle.mc_token.specs.Keywords.{keyword_text, keyword_of, is_reserved as is_reserved_keyword}
use Rattle.mc_token.specs.Marks.{mark_text}
use Rattle.mc_token.specs.declared.keyword.Keyword.{Keyword as AKeyword}
use Rattle.mc_token.specs.declared.keyword.Keyword.TheVariants as keyword
use Rattle.mc_token.specs.declared.kind.TokenKind.{TokenKind}
use Rattle.mc_token.specs.declared.kind.TokenKind.TheVariants.{Keyword, Introducer, Word, Name, Int}
use Rattle.mc_token.specs.declared.kind.TokenKind.TheVariants.{Str, National, Hex, Sym}
use Rattle.mc_token.specs.declared.lexeme.Lexeme.{Lexeme}
use Rattle.mc_token.specs.declared.lexeme.Lexeme.TheVariants as lexeme
use Rattle.mc_token.specs.declared.lexeme.Symbol.{Symbol}
use Rattle.mc_token.specs.declared.lexeme.Token.{Token}
use Rattle.mc_token.proofs.Keywords.{keyword_exact}
use Rattle.mc_sql.specs.Classes.{Class, word, mark, name, int, str, is_intro, is_lexeme_of}
use Rattle.mc_ast.specs.Values.{lexeme_text, lexeme_number}
use Rattle.mc_sql.proofs.Spellings.{spelled, spelled-spelling}
use Rattle.mc_parse.specs.Place.{is_kind, is_at, is_missing, is_name_kind, text_at, number_at}
use Rattle.mc_parse.specs.Place.{IsNext, IsTextOf}

-- Tests

test_true : (b : Bool) → (IsTrue (not b) → ⊥) → IsTrue b
test_true true h = refl
test_true false h = absurd (h refl)

pub test_false : (b : Bool) → (IsTrue b → ⊥) → IsTrue (not b)
test_false true h = absurd (h refl)
test_false false h = refl

both_true : (a b : Bool) → IsTrue a → IsTrue b → IsTrue (a && b)
both_true true b h k = k
both_true false b h k = absurd (cc)

pub both_parts : (a b : Bool) → IsTrue (a && b) → IsTrue a × IsTrue b
both_parts true b h = (refl, h)
both_parts false b h = absurd (cc)

not_both : (b : Bool) → IsTrue b → IsTrue (not b) → ⊥
not_both true h k = cc
not_both false h k = cc

-- Words

bytes_same : (a b : List ℕ) → a ≡ b → IsTrue (bytes_eq a b)
bytes_same a b e = (bytes_eq-Decides a b).1 e

pub same_bytes : (a b : List ℕ) → IsTrue (bytes_eq a b) → a ≡ b
same_bytes a b h = (bytes_eq-Decides a b).0 h

-- A word that is spelled as no keyword is none.
no_keyword : (w : List ℕ) → IsNoKeyword w → IsTrue (is_none (keyword_of w))
no_keyword w h = by_found (keyword_of w) refl
  where
    by_found : (o : Option AKeyword) → o ≡ keyword_of w → IsTrue (is_none o)
    by_found None e = refl
    by_found (Some k) e = absurd (h k (keyword_exact (Some k) w e))

-- A name is among those of a list where it is found there.
any_found : (text : List ℕ) (sets : List (List ℕ × Charset))
    → list_any (λ n. bytes_eq text n) (map (λ (x : List ℕ × Charset). x.0) sets)
    ≡ is_some (option_map (λ (x : List ℕ × Charset). x.1) (find (λ x. bytes_eq text x.0) sets))
any_found text [] = refl
any_found text (x ∷ sets) = by_test (bytes_eq text x.0) (any_found text sets)
  where
    by_test : (b : Bool)
        → list_any (λ n. bytes_eq text n) (map (λ (x : List ℕ × Charset). x.0) sets)
        ≡ is_some (option_map (λ (x : List ℕ × Charset). x.1) (find (λ x. bytes_eq text x.0) sets))
        → (b || list_any (λ n. bytes_eq text n) (map (λ (x : List ℕ × Charset). x.0) sets))
        ≡ is_some (option_map (λ (x : List ℕ × Charset). x.1)
        (cond b (Some x) (find (λ x. bytes_eq text x.0) sets)))
    by_test true e = refl
    by_test false e = e

-- A word is an introducer where a set is told from it.
intro_told : (w : List ℕ) → is_intro w ≡ is_some (introduced_set w)
unfolding is_intro set_spelled
intro_told [] = refl
intro_told (c ∷ text) = by_test (nat_eq c 95)
  where
    by_test : (b : Bool) → (b && list_any (λ n. bytes_eq text n) set_names)
        ≡ is_some (if b then set_spelled text else None)
    by_test true = any_found text named_sets
    by_test false = refl

-- The kind that is told is that of the lexeme.
pub kind_told : (kind : TokenKind) (x : Lexeme) → IsKind kind x → IsTrue (is_kind kind x)
kind_told (Keyword k) (lexeme.Word w) h = bytes_same w (keyword_text k) h
kind_told (Introducer set) (lexeme.Word w) h =
    both_true (is_none (keyword_of w)) (is_intro w) (no_keyword w h.0)
    (intro_told w ∙ ap (λ o. is_some o) h.1)
kind_told Word (lexeme.Word w) h =
    both_true (is_none (keyword_of w)) (not (is_intro w)) (no_keyword w h.0)
    (ap (λ b. not b) (intro_told w ∙ ap (λ o. is_some o) h.1))
kind_told Name (lexeme.Name text) h = refl
kind_told Int (lexeme.Int number) h = refl
kind_told Str (lexeme.Str text) h = refl
kind_told National (lexeme.National text) h = refl
kind_told Hex (lexeme.Hex text) h = refl
kind_told (Sym symbol) (lexeme.Sym other) h =
    bytes_same (mark_text other) (mark_text symbol) (ap (λ s. mark_text s) (sym h))
kind_told _ _ h = absurd h

-- Each keyword is found by its spelling.
pub keyword_of-text : (k : AKeyword) → keyword_of (keyword_text k) ≡ Some k
unfolding keyword_of
keyword_of-text keyword.Select = refl
keyword_of-text keyword.Distinct = refl
keyword_of-text keyword.From = refl
keyword_of-text keyword.Where = refl
keyword_of-text keyword.Group = refl
keyword_of-text keyword.By = refl
keyword_of-text keyword.Order = refl
keyword_of-text keyword.Asc = refl
keyword_of-text keyword.Desc = refl
keyword_of-text keyword.Limit = refl
keyword_of-text keyword.As = refl
keyword_of-text keyword.And = refl
keyword_of-text keyword.Or = refl
keyword_of-text keyword.Xor = refl
keyword_of-text keyword.Not = refl
keyword_of-text keyword.Is = refl
keyword_of-text keyword.Null = refl
keyword_of-text keyword.Like = refl
keyword_of-text keyword.In = refl
keyword_of-text keyword.Between = refl
keyword_of-text keyword.Collate = refl
keyword_of-text keyword.Div = refl
keyword_of-text keyword.Mod = refl
keyword_of-text keyword.Explain = refl
keyword_of-text keyword.Convert = refl
keyword_of-text keyword.Using = refl
keyword_of-text keyword.True = refl
keyword_of-text keyword.False = refl
keyword_of-text keyword.Character = refl
keyword_of-text keyword.Set = refl
keyword_of-text keyword.Char = refl
keyword_of-text keyword.Binary = refl
keyword_of-text keyword.Both = refl
keyword_of-text keyword.Leading = refl
keyword_of-text keyword.Trailing = refl
keyword_of-text keyword.For = refl
keyword_of-text keyword.Offset = refl
keyword_of-text keyword.Escape = refl
keyword_of-text keyword.Cast = refl
keyword_of-text keyword.Count = refl
keyword_of-text keyword.Trim = refl
keyword_of-text keyword.Substring = refl
keyword_of-text keyword.WeightString = refl

-- A word that is no keyword is spelled as none.
pub otherwise_spelled : (w : List ℕ) (k : AKeyword) → IsTrue (is_none (keyword_of w))
    → w ≡ keyword_text k → ⊥
otherwise_spelled w k h e =
    not_both true refl
    (subst (λ (o : Option AKeyword). IsTrue (is_none o)) (ap keyword_of e ∙ keyword_of-text k) h)

-- A word that is no keyword is a name.
named_otherwise : (w : List ℕ) → IsTrue (is_none (keyword_of w))
    → true ≡ is_lexeme_of name (lexeme.Word w)
named_otherwise w h = by_found (keyword_of w) h
  where
    by_found : (o : Option AKeyword) → IsTrue (is_none o)
        → true ≡ not (elim o [ Some l ↦ is_reserved_keyword l | None ↦ false ])
    by_found None e = refl
    by_found (Some l) e = cc

-- Keywords are told apart by their spelling.
one_keyword : (k l : AKeyword) → keyword_text k ≡ keyword_text l → k ≡ l
one_keyword k l e =
    same_Some k l (sym (keyword_of-text k) ∙ ap keyword_of e ∙ keyword_of-text l)

-- A word that is next, and one that is not

keyword_here : (k : AKeyword) (span : Span) (x : Lexeme) (ts : List Token)
    → IsTrue (is_kind (Keyword k) x)
    → IsNext (lexeme.Word (keyword_text k)) (record { span = span; kind = x } ∷ ts) ts
keyword_here k span (lexeme.Word w) ts h = record {
  span = span;
  same = ap (λ (y : List ℕ). record { span = span; kind = lexeme.Word y } ∷ ts)
      (same_bytes w (keyword_text k) h);
}
keyword_here k span _ ts h = cc

pub keyword_next : (kind : Option TokenKind) (k : AKeyword) (tokens : List Token)
    → IsTrue (is_at kind tokens) → kind ≡ Some (Keyword k)
    → IsNext (lexeme.Word (keyword_text k)) tokens (drop 1 tokens)
keyword_next kind k tokens h e =
    by_tokens tokens (subst (λ (o : Option TokenKind). IsTrue (is_at o tokens)) e h)
  where
    by_tokens : (ts : List Token) → IsTrue (is_at (Some (Keyword k)) ts)
        → IsNext (lexeme.Word (keyword_text k)) ts (drop 1 ts)
    by_tokens [] g = cc
    by_tokens (t ∷ ts) g = keyword_here k t.span t.kind ts g

word_kind : (kind : TokenKind) (k : AKeyword) (w : List ℕ) → IsTrue (is_kind kind (lexeme.Word w))
    → w ≡ keyword_text k → kind ≡ Keyword k
word_kind (Keyword l) k w h e =
    ap (λ x. Keyword x) (one_keyword l k (sym (same_bytes w (keyword_text l) h) ∙ e))
word_kind (Introducer set) k w h e =
    absurd (otherwise_spelled w k (both_parts (is_none (keyword_of w)) (is_intro w) h).0 e)
word_kind Word k w h e =
    absurd (otherwise_spelled w k (both_parts (is_none (keyword_of w)) (not (is_intro w)) h).0 e)
word_kind _ k w h e = cc

keyword_kind : (kind : TokenKind) (k : AKeyword) (x : Lexeme) → IsTrue (is_kind kind x)
    → IsTrue (is_lexeme_of (word (keyword_text k)) x) → kind ≡ Keyword k
keyword_kind kind k (lexeme.Word w) h m = word_kind kind k w h (same_bytes w (keyword_text k) m)
keyword_kind kind k _ h m = cc

pub keyword_missing : (kind : Option TokenKind) (k : AKeyword) (tokens : List Token)
    → IsTrue (is_at kind tokens) → kind ≢ Some (Keyword k)
    → IsTrue (is_missing (word (keyword_text k)) tokens)
keyword_missing None k [] h ne = refl
keyword_missing None k (t ∷ ts) h ne = cc
keyword_missing (Some kind) k [] h ne = cc
keyword_missing (Some kind) k (t ∷ ts) h ne =
    test_false (is_lexeme_of (word (keyword_text k)) t.kind)
    (λ m. ne (ap (λ x. Some x) (keyword_kind kind k t.kind h m)))

-- A mark that is next, and one that is not

one_mark : (a b : Symbol) → mark_text a ≡ mark_text b → a ≡ b
one_mark a b e = sym (spelled-spelling a) ∙ ap spelled e ∙ spelled-spelling b

mark_here : (s : Symbol) (span : Span) (x : Lexeme) (ts : List Token)
    → IsTrue (is_kind (Sym s) x)
    → IsNext (lexeme.Sym s) (record { span = span; kind = x } ∷ ts) ts
mark_here s span (lexeme.Sym other) ts h = record {
  span = span;
  same = ap (λ (y : Symbol). record { span = span; kind = lexeme.Sym y } ∷ ts)
      (one_mark other s (same_bytes (mark_text other) (mark_text s) h));
}
mark_here s span _ ts h = cc

pub mark_next : (kind : Option TokenKind) (s : Symbol) (tokens : List Token)
    → IsTrue (is_at kind tokens) → kind ≡ Some (Sym s) → IsNext (lexeme.Sym s) tokens
    (drop 1 tokens)
mark_next kind s tokens h e =
    by_tokens tokens (subst (λ (o : Option TokenKind). IsTrue (is_at o tokens)) e h)
  where
    by_tokens : (ts : List Token) → IsTrue (is_at (Some (Sym s)) ts)
        → IsNext (lexeme.Sym s) ts (drop 1 ts)
    by_tokens [] g = cc
    by_tokens (t ∷ ts) g = mark_here s t.span t.kind ts g

mark_kind : (kind : TokenKind) (s : Symbol) (x : Lexeme) → IsTrue (is_kind kind x)
    → IsTrue (is_lexeme_of (mark s) x) → kind ≡ Sym s
mark_kind kind s (lexeme.Sym other) h m = only kind h
  where
    only : (kind : TokenKind) → IsTrue (is_kind kind (lexeme.Sym other)) → kind ≡ Sym s
    only (Sym a) g = ap (λ x. Sym x) (one_mark a s
        (sym (same_bytes (mark_text other) (mark_text a) g)
        ∙ same_bytes (mark_text other) (mark_text s) m))
    only _ g = cc
mark_kind kind s _ h m = cc

pub mark_missing : (kind : Option TokenKind) (s : Symbol) (tokens : List Token)
    → IsTrue (is_at kind tokens) → kind ≢ Some (Sym s) → IsTrue (is_missing (mark s) tokens)
mark_missing None s [] h ne = refl
mark_missing None s (t ∷ ts) h ne = cc
mark_missing (Some kind) s [] h ne = cc
mark_missing (Some kind) s (t ∷ ts) h ne =
    test_false (is_lexeme_of (mark s) t.kind)
    (λ m. ne (ap (λ x. Some x) (mark_kind kind s t.kind h m)))

-- A name that is next, and one that is not

-- A word is a name where it is no reserved keyword.
word_named : (kind : TokenKind) (w : List ℕ) → IsTrue (is_kind kind (lexeme.Word w))
    → is_name_kind (Some kind) ≡ is_lexeme_of name (lexeme.Word w)
word_named (Keyword k) w h =
    let e : keyword_of w ≡ Some k =
    ap keyword_of (same_bytes w (keyword_text k) h) ∙ keyword_of-text k in
    ap (λ (o : Option AKeyword).
    not (elim o [ Some l ↦ is_reserved_keyword l | None ↦ false ])) (sym e)
word_named (Introducer set) w h =
    named_otherwise w (both_parts (is_none (keyword_of w)) (is_intro w) h).0
word_named Word w h =
    named_otherwise w (both_parts (is_none (keyword_of w)) (not (is_intro w)) h).0
word_named _ w h = cc

kind_named : (kind : TokenKind) (x : Lexeme) → IsTrue (is_kind kind x)
    → is_name_kind (Some kind) ≡ is_lexeme_of name x
kind_named kind (lexeme.Word w) h = word_named kind w h
kind_named Name (lexeme.Name w) h = refl
kind_named Int (lexeme.Int n) h = refl
kind_named Str (lexeme.Str w) h = refl
kind_named National (lexeme.National w) h = refl
kind_named Hex (lexeme.Hex w) h = refl
kind_named (Sym s) (lexeme.Sym other) h = refl
kind_named _ _ h = cc

pub name_next : (kind : Option TokenKind) (tokens : List Token) → IsTrue (is_at kind tokens)
    → IsTrue (is_name_kind kind) → IsTextOf name tokens (drop 1 tokens) (text_at tokens)
name_next None tokens h n = cc
name_next (Some kind) [] h n = cc
name_next (Some kind) (t ∷ ts) h n = record {
  token = t;
  same = refl;
  of_class = subst (λ (b : Bool). IsTrue b) (kind_named kind t.kind h) n;
  says = refl;
}

pub name_missing : (kind : Option TokenKind) (tokens : List Token) → IsTrue (is_at kind tokens)
    → is_name_kind kind ≡ false → IsTrue (is_missing name tokens)
name_missing None [] h n = refl
name_missing None (t ∷ ts) h n = cc
name_missing (Some kind) [] h n = cc
name_missing (Some kind) (t ∷ ts) h n =
    ap (λ (b : Bool). not b) (sym (kind_named kind t.kind h) ∙ n)

-- Literals that are next, and those that are not

pub int_next : (kind : Option TokenKind) (tokens : List Token) → IsTrue (is_at kind tokens)
    → kind ≡ Some Int → IsNext (lexeme.Int (number_at tokens)) tokens (drop 1 tokens)
int_next kind tokens h e =
    by_tokens tokens (subst (λ (o : Option TokenKind). IsTrue (is_at o tokens)) e h)
  where
    here : (span : Span) (x : Lexeme) (ts : List Token) → IsTrue (is_kind Int x)
        → IsNext (lexeme.Int (lexeme_number x)) (record { span = span; kind = x } ∷ ts) ts
    here span (lexeme.Int n) ts g = record { span = span; same = refl }
    here span _ ts g = cc

    by_tokens : (ts : List Token) → IsTrue (is_at (Some Int) ts)
        → IsNext (lexeme.Int (number_at ts)) ts (drop 1 ts)
    by_tokens [] g = cc
    by_tokens (t ∷ ts) g = here t.span t.kind ts g

int_kind : (kind : TokenKind) (x : Lexeme) → IsTrue (is_kind kind x) → IsTrue (is_lexeme_of int x)
    → kind ≡ Int
int_kind kind (lexeme.Int n) h m = only kind h
  where
    only : (kind : TokenKind) → IsTrue (is_kind kind (lexeme.Int n)) → kind ≡ Int
    only Int g = refl
    only _ g = cc
int_kind kind _ h m = cc

pub int_missing : (kind : Option TokenKind) (tokens : List Token) → IsTrue (is_at kind tokens)
    → kind ≢ Some Int → IsTrue (is_missing int tokens)
int_missing None [] h ne = refl
int_missing None (t ∷ ts) h ne = cc
int_missing (Some kind) [] h ne = cc
int_missing (Some kind) (t ∷ ts) h ne =
    test_false (is_lexeme_of int t.kind) (λ m. ne (ap (λ x. Some x) (int_kind kind t.kind h m)))

pub str_next : (kind : Option TokenKind) (tokens : List Token) → IsTrue (is_at kind tokens)
    → kind ≡ Some Str → IsNext (lexeme.Str (text_at tokens)) tokens (drop 1 tokens)
str_next kind tokens h e =
    by_tokens tokens (subst (λ (o : Option TokenKind). IsTrue (is_at o tokens)) e h)
  where
    here : (span : Span) (x : Lexeme) (ts : List Token) → IsTrue (is_kind Str x)
        → IsNext (lexeme.Str (lexeme_text x)) (record { span = span; kind = x } ∷ ts) ts
    here span (lexeme.Str w) ts g = record { span = span; same = refl }
    here span _ ts g = cc

    by_tokens : (ts : List Token) → IsTrue (is_at (Some Str) ts)
        → IsNext (lexeme.Str (text_at ts)) ts (drop 1 ts)
    by_tokens [] g = cc
    by_tokens (t ∷ ts) g = here t.span t.kind ts g

str_kind : (kind : TokenKind) (x : Lexeme) → IsTrue (is_kind kind x) → IsTrue (is_lexeme_of str x)
    → kind ≡ Str
str_kind kind (lexeme.Str w) h m = only kind h
  where
    only : (kind : TokenKind) → IsTrue (is_kind kind (lexeme.Str w)) → kind ≡ Str
    only Str g = refl
    only _ g = cc
str_kind kind _ h m = cc

pub str_missing : (kind : Option TokenKind) (tokens : List Token) → IsTrue (is_at kind tokens)
    → kind ≢ Some Str → IsTrue (is_missing str tokens)
str_missing None [] h ne = refl
str_missing None (t ∷ ts) h ne = cc
str_missing (Some kind) [] h ne = cc
str_missing (Some kind) (t ∷ ts) h ne =
    test_false (is_lexeme_of str t.kind) (λ m. ne (ap (λ x. Some x) (str_kind kind t.kind h m)))

-- The ways through each function, by its name.
pub ruleset keyword_ways = (keyword_next, keyword_missing)

pub ruleset mark_ways = (mark_next, mark_missing)

pub ruleset name_ways = (name_next, name_missing)

pub ruleset int_ways = (int_next, int_missing)

pub ruleset str_ways = (str_next, str_missing)
