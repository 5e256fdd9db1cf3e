-- What a parser sees at a place: the kind of the next token. Aho, Lam, Sethi and Ullman, Compilers,
-- 4.4.
use Rattle.std.specs.Prelude.{◌≡◌, ℕ, ℤ, pos, Bool, true, false, not, ◌&&◌, List, [], ◌∷◌}
use Rattle.std.specs.Prelude.{Option, Some, None, IsTrue, is_none}
use Rattle.std.specs.Str.{bytes_eq}
use Rattle.mc_base.specs.declared.span.Span.{Span}
use Rattle.mc_token.specs.Keywords.{keyword_text, keyword_of, is_reserved}
use Rattle.mc_token.specs.Marks.{mark_text}
use Rattle.mc_token.specs.declared.keyword.Keyword.TheVariants.{Mod, Cast}
use Rattle.mc_token.specs.declared.kind.TokenKind.{TokenKind}
use Rattle.mc_token.specs.declared.kind.TokenKind.TheVariants.{Keyword, Introducer, Word, Name, Int}
use Rattle.mc_token.specs.declared.kind.TokenKind.TheVariants.{Str, National, Hex, Sym}
use Rattle.mc_token.specs.declared.lexeme.Lexeme.{Lexeme}
use Rattle.mc_token.specs.declared.lexeme.Lexeme.TheVariants as lexeme
use Rattle.mc_token.specs.declared.lexeme.Token.{Token}
use Rattle.mc_sql.specs.Classes.{Class, is_intro, is_lexeme_of}
use Rattle.mc_ast.specs.Values.{lexeme_text, lexeme_number}

-- The lexeme is of the kind.
abbrev pub is_kind : TokenKind → Lexeme → Bool
is_kind (Keyword keyword) (lexeme.Word word) = bytes_eq word (keyword_text keyword)
is_kind (Introducer set) (lexeme.Word word) = is_none (keyword_of word) && is_intro word
is_kind Word (lexeme.Word word) = is_none (keyword_of word) && not (is_intro word)
is_kind Name (lexeme.Name name) = true
is_kind Int (lexeme.Int number) = true
is_kind Str (lexeme.Str text) = true
is_kind National (lexeme.National text) = true
is_kind Hex (lexeme.Hex bytes) = true
is_kind (Sym symbol) (lexeme.Sym other) = bytes_eq (mark_text other) (mark_text symbol)
is_kind _ _ = false

-- The next token is of the kind; at the end of the tokens there is none.
abbrev pub is_at : Option TokenKind → List Token → Bool
is_at None [] = true
is_at None (token ∷ tokens) = false
is_at (Some kind) [] = false
is_at (Some kind) (token ∷ tokens) = is_kind kind token.kind

-- The next token is not of the class, or there is none.
abbrev pub is_missing : Class → List Token → Bool
is_missing class [] = true
is_missing class (token ∷ tokens) = not (is_lexeme_of class token.kind)

-- The next token is of none of the classes.
abbrev pub are_missing : List Class → List Token → Bool
are_missing [] tokens = true
are_missing (k ∷ ks) tokens = is_missing k tokens && are_missing ks tokens

-- Where the next token stands.
abbrev pub span_at : List Token → Span
span_at [] = record { start = 0; end = 0 }
span_at (token ∷ tokens) = token.span

-- What the next token says, and its number.
abbrev pub text_at : List Token → List ℕ
text_at [] = []
text_at (token ∷ tokens) = lexeme_text token.kind

abbrev pub number_at : List Token → ℤ
number_at [] = pos 0
number_at (token ∷ tokens) = lexeme_number token.kind

-- A token of the kind is a name.
abbrev pub is_name_kind : Option TokenKind → Bool
is_name_kind (Some (Keyword keyword)) = not (is_reserved keyword)
is_name_kind (Some (Introducer set)) = true
is_name_kind (Some Word) = true
is_name_kind (Some Name) = true
is_name_kind _ = false

-- A token of the kind is an introducer.
abbrev pub is_intro_kind : Option TokenKind → Bool
is_intro_kind (Some (Introducer set)) = true
is_intro_kind _ = false

-- A token of the kind is the word of a call with its arguments alone.
abbrev pub is_called_kind : Option TokenKind → Bool
is_called_kind (Some (Keyword Mod)) = true
is_called_kind (Some (Keyword Cast)) = false
is_called_kind (Some (Keyword keyword)) = not (is_reserved keyword)
is_called_kind (Some (Introducer set)) = true
is_called_kind (Some Word) = true
is_called_kind _ = false

-- The next token has this lexeme, and the rest stands behind it.
pub record IsNext (lexeme : Lexeme) (tokens rest : List Token) : Type 0 where
  pub span : Span
  pub same : tokens ≡ record { span = span; kind = lexeme } ∷ rest

-- The next token is of the class, says this text, and the rest stands behind it.
pub record IsTextOf (class : Class) (tokens rest : List Token) (text : List ℕ) : Type 0 where
  pub token : Token
  pub same : tokens ≡ token ∷ rest
  pub of_class : IsTrue (is_lexeme_of class token.kind)
  pub says : text ≡ lexeme_text token.kind
