-- What a parser asks of a token: MySQL 8.0 manual, 9.1 to 9.3 and 10.3.8.
use Rattle.std.specs.Prelude.{◌≡◌, ◌≢◌, ℕ, ◌==◌, List, [], ◌∷◌, Option}
use Rattle.std.specs.Prelude.{Some, None, if◌then◌else◌}
use Rattle.std.specs.Prelude.{option_map}
use Rattle.std.specs.List.{find}
use Rattle.std.specs.Str.{bytes_eq}
use Rattle.mc_charset.specs.Names.{named_sets}
use Rattle.mc_charset.specs.declared.charset.Charset.{Charset}
use Rattle.mc_token.specs.Bytes.{underscore}
use Rattle.mc_token.specs.Keywords.{keyword_text}
use Rattle.mc_token.specs.declared.keyword.Keyword.{Keyword as AKeyword}
use Rattle.mc_token.specs.declared.kind.TokenKind.{TokenKind}
use Rattle.mc_token.specs.declared.kind.TokenKind.TheVariants.{Keyword, Introducer, Word, Name, Int}
use Rattle.mc_token.specs.declared.kind.TokenKind.TheVariants.{Str}
use Rattle.mc_token.specs.declared.kind.TokenKind.TheVariants.{National, Hex, Sym}
use Rattle.mc_token.specs.declared.lexeme.Lexeme.{Lexeme}
use Rattle.mc_token.specs.declared.lexeme.Lexeme.TheVariants as lexeme

-- The set that is named so, in lower case.
unfoldable pub set_spelled : List ℕ → Option Charset
set_spelled name =
    option_map (λ named. named.1) (find (λ named. bytes_eq name named.0) named_sets)

-- The character set whose name stands behind the `_` of a word.
abbrev pub introduced_set : List ℕ → Option Charset
introduced_set [] = None
introduced_set (first ∷ name) = if first == underscore then set_spelled name else None

-- The word is spelled as no keyword is.
abbrev pub IsNoKeyword : List ℕ → Type 0
IsNoKeyword word = (keyword : AKeyword) → word ≢ keyword_text keyword

-- The lexeme is of this kind: a word that a keyword is spelled as is that keyword.
abbrev pub IsKind : TokenKind → Lexeme → Type 0
IsKind (Keyword keyword) (lexeme.Word word) = word ≡ keyword_text keyword
IsKind (Introducer set) (lexeme.Word word) = IsNoKeyword word × (introduced_set word ≡ Some set)
IsKind Word (lexeme.Word word) = IsNoKeyword word × (introduced_set word ≡ None)
IsKind Name (lexeme.Name name) = Unit {0}
IsKind Int (lexeme.Int number) = Unit {0}
IsKind Str (lexeme.Str text) = Unit {0}
IsKind National (lexeme.National text) = Unit {0}
IsKind Hex (lexeme.Hex bytes) = Unit {0}
IsKind (Sym symbol) (lexeme.Sym other) = symbol ≡ other
IsKind _ _ = ⊥
