-- What the kind of a token tells of strings, introducers and the words of calls.
use Rattle.std.proofs.Common.{◌≡◌, ◌≢◌, refl, sym, ap, ◌∙◌, subst, ℕ, Bool, true, false, not, ◌&&◌}
use Rattle.std.proofs.Common.{◌||◌, List, [], ◌∷◌, IsTrue, Option, Some, None, drop, codes}
use Rattle.std.specs.Prelude.{is_none}
use Rattle.std.specs.Str.{bytes_eq}
use Rattle.mc_base.specs.declared.span.Span.{Span}
use Rattle.mc_token.specs.Keywords.{keyword_text, keyword_of, is_reserved as is_reserved_keyword}
use Rattle.mc_token.specs.declared.keyword.Keyword.{Keyword as AKeyword}
use Rattle.mc_token.specs.declared.keyword.Keyword.TheVariants as keyword
use Rattle.mc_token.specs.declared.kind.TokenKind.{TokenKind}
use Rattle.mc_token.specs.declared.kind.TokenKind.TheVariants.{Keyword, Introducer, Word, Name, Int}
use Rattle.mc_token.specs.declared.kind.TokenKind.TheVariants.{Str, National, Hex, Sym}
use Rattle.mc_token.specs.declared.lexeme.Lexeme.{Lexeme}
use Rattle.mc_token.specs.declared.lexeme.Lexeme.TheVariants as lexeme
use Rattle.mc_token.specs.declared.lexeme.Token.{Token}
use Rattle.mc_sql.specs.Classes.{national, hex, intro, called, is_intro, is_called, is_lexeme_of}
use Rattle.mc_ast.specs.Values.{lexeme_text}
use Rattle.mc_parse.specs.Place.{is_kind, is_at, is_missing, is_intro_kind, is_called_kind, text_at}
use Rattle.mc_parse.specs.Place.{IsNext, IsTextOf}
use Rattle.mc_parse.proofs.TokenKinds.{test_false, both_parts, same_bytes, otherwise_spelled}

pub national_next : (kind : Option TokenKind) (tokens : List Token) → IsTrue (is_at kind tokens)
    → kind ≡ Some National → IsNext (lexeme.National (text_at tokens)) tokens (drop 1 tokens)
national_next kind tokens h e =
    by_tokens tokens (subst (λ (o : Option TokenKind). IsTrue (is_at o tokens)) e h)
  where
    here : (span : Span) (x : Lexeme) (ts : List Token) → IsTrue (is_kind National x)
        → IsNext (lexeme.National (lexeme_text x)) (record { span = span; kind = x } ∷ ts) ts
    here span (lexeme.National w) ts g = record { span = span; same = refl }
    here span _ ts g = cc

    by_tokens : (ts : List Token) → IsTrue (is_at (Some National) ts)
        → IsNext (lexeme.National (text_at ts)) ts (drop 1 ts)
    by_tokens [] g = cc
    by_tokens (t ∷ ts) g = here t.span t.kind ts g

national_kind : (kind : TokenKind) (x : Lexeme) → IsTrue (is_kind kind x)
    → IsTrue (is_lexeme_of national x) → kind ≡ National
national_kind kind (lexeme.National w) h m = only kind h
  where
    only : (kind : TokenKind) → IsTrue (is_kind kind (lexeme.National w)) → kind ≡ National
    only National g = refl
    only _ g = cc
national_kind kind _ h m = cc

pub national_missing : (kind : Option TokenKind) (tokens : List Token) → IsTrue (is_at kind tokens)
    → kind ≢ Some National → IsTrue (is_missing national tokens)
national_missing None [] h ne = refl
national_missing None (t ∷ ts) h ne = cc
national_missing (Some kind) [] h ne = cc
national_missing (Some kind) (t ∷ ts) h ne =
    test_false (is_lexeme_of national t.kind)
    (λ m. ne (ap (λ x. Some x) (national_kind kind t.kind h m)))

pub hex_next : (kind : Option TokenKind) (tokens : List Token) → IsTrue (is_at kind tokens)
    → kind ≡ Some Hex → IsNext (lexeme.Hex (text_at tokens)) tokens (drop 1 tokens)
hex_next kind tokens h e =
    by_tokens tokens (subst (λ (o : Option TokenKind). IsTrue (is_at o tokens)) e h)
  where
    here : (span : Span) (x : Lexeme) (ts : List Token) → IsTrue (is_kind Hex x)
        → IsNext (lexeme.Hex (lexeme_text x)) (record { span = span; kind = x } ∷ ts) ts
    here span (lexeme.Hex w) ts g = record { span = span; same = refl }
    here span _ ts g = cc

    by_tokens : (ts : List Token) → IsTrue (is_at (Some Hex) ts)
        → IsNext (lexeme.Hex (text_at ts)) ts (drop 1 ts)
    by_tokens [] g = cc
    by_tokens (t ∷ ts) g = here t.span t.kind ts g

hex_kind : (kind : TokenKind) (x : Lexeme) → IsTrue (is_kind kind x)
    → IsTrue (is_lexeme_of hex x) → kind ≡ Hex
hex_kind kind (lexeme.Hex w) h m = only kind h
  where
    only : (kind : TokenKind) → IsTrue (is_kind kind (lexeme.Hex w)) → kind ≡ Hex
    only Hex g = refl
    only _ g = cc
hex_kind kind _ h m = cc

pub hex_missing : (kind : Option TokenKind) (tokens : List Token) → IsTrue (is_at kind tokens)
    → kind ≢ Some Hex → IsTrue (is_missing hex tokens)
hex_missing None [] h ne = refl
hex_missing None (t ∷ ts) h ne = cc
hex_missing (Some kind) [] h ne = cc
hex_missing (Some kind) (t ∷ ts) h ne =
    test_false (is_lexeme_of hex t.kind)
    (λ m. ne (ap (λ x. Some x) (hex_kind kind t.kind h m)))

-- No keyword is an introducer, and which of them begin a call.
pub keyword_intro : (k : AKeyword) → false ≡ is_intro (keyword_text k)
unfolding is_intro
keyword_intro keyword.Select = refl
keyword_intro keyword.Distinct = refl
keyword_intro keyword.From = refl
keyword_intro keyword.Where = refl
keyword_intro keyword.Group = refl
keyword_intro keyword.By = refl
keyword_intro keyword.Order = refl
keyword_intro keyword.Asc = refl
keyword_intro keyword.Desc = refl
keyword_intro keyword.Limit = refl
keyword_intro keyword.As = refl
keyword_intro keyword.And = refl
keyword_intro keyword.Or = refl
keyword_intro keyword.Xor = refl
keyword_intro keyword.Not = refl
keyword_intro keyword.Is = refl
keyword_intro keyword.Null = refl
keyword_intro keyword.Like = refl
keyword_intro keyword.In = refl
keyword_intro keyword.Between = refl
keyword_intro keyword.Collate = refl
keyword_intro keyword.Div = refl
keyword_intro keyword.Mod = refl
keyword_intro keyword.Explain = refl
keyword_intro keyword.Convert = refl
keyword_intro keyword.Using = refl
keyword_intro keyword.True = refl
keyword_intro keyword.False = refl
keyword_intro keyword.Character = refl
keyword_intro keyword.Set = refl
keyword_intro keyword.Char = refl
keyword_intro keyword.Binary = refl
keyword_intro keyword.Both = refl
keyword_intro keyword.Leading = refl
keyword_intro keyword.Trailing = refl
keyword_intro keyword.For = refl
keyword_intro keyword.Offset = refl
keyword_intro keyword.Escape = refl
keyword_intro keyword.Cast = refl
keyword_intro keyword.Count = refl
keyword_intro keyword.Trim = refl
keyword_intro keyword.Substring = refl
keyword_intro keyword.WeightString = refl

keyword_called : (k : AKeyword) → is_called_kind (Some (Keyword k)) ≡ is_called (keyword_text k)
unfolding is_called keyword_of
keyword_called keyword.Select = refl
keyword_called keyword.Distinct = refl
keyword_called keyword.From = refl
keyword_called keyword.Where = refl
keyword_called keyword.Group = refl
keyword_called keyword.By = refl
keyword_called keyword.Order = refl
keyword_called keyword.Asc = refl
keyword_called keyword.Desc = refl
keyword_called keyword.Limit = refl
keyword_called keyword.As = refl
keyword_called keyword.And = refl
keyword_called keyword.Or = refl
keyword_called keyword.Xor = refl
keyword_called keyword.Not = refl
keyword_called keyword.Is = refl
keyword_called keyword.Null = refl
keyword_called keyword.Like = refl
keyword_called keyword.In = refl
keyword_called keyword.Between = refl
keyword_called keyword.Collate = refl
keyword_called keyword.Div = refl
keyword_called keyword.Mod = refl
keyword_called keyword.Explain = refl
keyword_called keyword.Convert = refl
keyword_called keyword.Using = refl
keyword_called keyword.True = refl
keyword_called keyword.False = refl
keyword_called keyword.Character = refl
keyword_called keyword.Set = refl
keyword_called keyword.Char = refl
keyword_called keyword.Binary = refl
keyword_called keyword.Both = refl
keyword_called keyword.Leading = refl
keyword_called keyword.Trailing = refl
keyword_called keyword.For = refl
keyword_called keyword.Offset = refl
keyword_called keyword.Escape = refl
keyword_called keyword.Cast = refl
keyword_called keyword.Count = refl
keyword_called keyword.Trim = refl
keyword_called keyword.Substring = refl
keyword_called keyword.WeightString = refl

-- A word that is no keyword begins a call.
otherwise_called : (w : List ℕ) → IsTrue (is_none (keyword_of w)) → true ≡ is_called w
unfolding is_called
otherwise_called w h =
    by_parts (bytes_eq w (codes "mod")) (keyword_of w) (bytes_eq w (codes "cast")) h
    (test_false (bytes_eq w (codes "cast")) (λ m. otherwise_spelled w keyword.Cast h
    (same_bytes w (codes "cast") m)))
  where
    by_parts : (a : Bool) (o : Option AKeyword) (b : Bool) → IsTrue (is_none o) → IsTrue (not b)
        → true ≡ (a || (not (elim o [ Some l ↦ is_reserved_keyword l | None ↦ false ]) && not b))
    by_parts true o b h k = refl
    by_parts false None true h k = cc
    by_parts false None false h k = refl
    by_parts false (Some l) b h k = cc

word_intro : (kind : TokenKind) (w : List ℕ) → IsTrue (is_kind kind (lexeme.Word w))
    → is_intro_kind (Some kind) ≡ is_lexeme_of intro (lexeme.Word w)
word_intro (Keyword k) w h = keyword_intro k ∙ ap is_intro (sym (same_bytes w (keyword_text k) h))
word_intro (Introducer set) w h = sym ((both_parts (is_none (keyword_of w)) (is_intro w) h).1)
word_intro Word w h = is_false (is_intro w)
    (both_parts (is_none (keyword_of w)) (not (is_intro w)) h).1
  where
    is_false : (b : Bool) → IsTrue (not b) → false ≡ b
    is_false true k = cc
    is_false false k = refl
word_intro _ w h = cc

kind_intro : (kind : TokenKind) (x : Lexeme) → IsTrue (is_kind kind x)
    → is_intro_kind (Some kind) ≡ is_lexeme_of intro x
kind_intro kind (lexeme.Word w) h = word_intro kind w h
kind_intro Name (lexeme.Name w) h = refl
kind_intro Int (lexeme.Int n) h = refl
kind_intro Str (lexeme.Str w) h = refl
kind_intro National (lexeme.National w) h = refl
kind_intro Hex (lexeme.Hex w) h = refl
kind_intro (Sym s) (lexeme.Sym other) h = refl
kind_intro _ _ h = cc

word_called : (kind : TokenKind) (w : List ℕ) → IsTrue (is_kind kind (lexeme.Word w))
    → is_called_kind (Some kind) ≡ is_lexeme_of called (lexeme.Word w)
word_called (Keyword k) w h = keyword_called k ∙ ap is_called
    (sym (same_bytes w (keyword_text k) h))
word_called (Introducer set) w h =
    otherwise_called w (both_parts (is_none (keyword_of w)) (is_intro w) h).0
word_called Word w h =
    otherwise_called w (both_parts (is_none (keyword_of w)) (not (is_intro w)) h).0
word_called _ w h = cc

kind_called : (kind : TokenKind) (x : Lexeme) → IsTrue (is_kind kind x)
    → is_called_kind (Some kind) ≡ is_lexeme_of called x
kind_called kind (lexeme.Word w) h = word_called kind w h
kind_called Name (lexeme.Name w) h = refl
kind_called Int (lexeme.Int n) h = refl
kind_called Str (lexeme.Str w) h = refl
kind_called National (lexeme.National w) h = refl
kind_called Hex (lexeme.Hex w) h = refl
kind_called (Sym s) (lexeme.Sym other) h = refl
kind_called _ _ h = cc

pub intro_next : (kind : Option TokenKind) (tokens : List Token) → IsTrue (is_at kind tokens)
    → IsTrue (is_intro_kind kind) → IsTextOf intro tokens (drop 1 tokens) (text_at tokens)
intro_next None tokens h n = cc
intro_next (Some kind) [] h n = cc
intro_next (Some kind) (t ∷ ts) h n = record {
  token = t;
  same = refl;
  of_class = subst (λ (b : Bool). IsTrue b) (kind_intro kind t.kind h) n;
  says = refl;
}

pub intro_missing : (kind : Option TokenKind) (tokens : List Token) → IsTrue (is_at kind tokens)
    → is_intro_kind kind ≡ false → IsTrue (is_missing intro tokens)
intro_missing None [] h n = refl
intro_missing None (t ∷ ts) h n = cc
intro_missing (Some kind) [] h n = cc
intro_missing (Some kind) (t ∷ ts) h n =
    ap (λ (b : Bool). not b) (sym (kind_intro kind t.kind h) ∙ n)

pub called_next : (kind : Option TokenKind) (tokens : List Token) → IsTrue (is_at kind tokens)
    → IsTrue (is_called_kind kind) → IsTextOf called tokens (drop 1 tokens) (text_at tokens)
called_next None tokens h n = cc
called_next (Some kind) [] h n = cc
called_next (Some kind) (t ∷ ts) h n = record {
  token = t;
  same = refl;
  of_class = subst (λ (b : Bool). IsTrue b) (kind_called kind t.kind h) n;
  says = refl;
}

pub called_missing : (kind : Option TokenKind) (tokens : List Token) → IsTrue (is_at kind tokens)
    → is_called_kind kind ≡ false → IsTrue (is_missing called tokens)
called_missing None [] h n = refl
called_missing None (t ∷ ts) h n = cc
called_missing (Some kind) [] h n = cc
called_missing (Some kind) (t ∷ ts) h n =
    ap (λ (b : Bool). not b) (sym (kind_called kind t.kind h) ∙ n)

-- The ways through each function, by its name.
pub ruleset national_ways = (national_next, national_missing)

pub ruleset hex_ways = (hex_next, hex_missing)

pub ruleset intro_ways = (intro_next, intro_missing)

pub ruleset called_ways = (called_next, called_missing)
