-- What begins an operand that is no column: MySQL 8.0 manual, 9.1, 9.2.1 and 12.1.
use Rattle.std.specs.Prelude.{◌≡◌, ◌⊎◌, Bool, true, false, not, ◌&&◌, ◌||◌, List, [], ◌∷◌, codes}
use Rattle.std.specs.Prelude.{IsTrue}
use Rattle.mc_token.specs.declared.lexeme.Lexeme.{Lexeme}
use Rattle.mc_token.specs.declared.lexeme.Lexeme.TheVariants.{Word}
use Rattle.mc_token.specs.declared.lexeme.Symbol.TheVariants.{LeftParen}
use Rattle.mc_token.specs.declared.lexeme.Token.{Token}
use Rattle.mc_sql.specs.Classes.{Class, word, mark, called, intro, int, str, national, hex}
use Rattle.mc_sql.specs.Classes.{is_lexeme_of}
use Rattle.mc_parse.specs.Place.{is_missing, are_missing, IsNext}

-- The lexeme is the word of a call where a parenthesis is behind it.
abbrev pub is_caller : Lexeme → Bool
is_caller x =
    is_lexeme_of called x
    || (is_lexeme_of (word (codes "cast")) x || is_lexeme_of (word (codes "convert")) x)

-- The word of a call is next.
abbrev pub sees_caller : List Token → Bool
sees_caller [] = false
sees_caller (token ∷ tokens) = is_caller token.kind

-- The word of a call is next, and its parenthesis.
abbrev pub begins_call : List Token → Bool
begins_call [] = false
begins_call (token ∷ tokens) =
    is_caller token.kind && not (is_missing (mark LeftParen) tokens)

-- A string is next, or an introducer and a string.
abbrev pub begins_text : List Token → Bool
begins_text tokens = not (is_missing str tokens) || not (is_missing hex tokens)

abbrev pub begins_string : List Token → Bool
begins_string [] = false
begins_string (token ∷ tokens) =
    (is_lexeme_of intro token.kind && begins_text tokens)
    || (is_lexeme_of str token.kind
    || (is_lexeme_of national token.kind || is_lexeme_of hex token.kind))

-- Int | TRUE | FALSE | NULL
abbrev pub plain_literals : List Class
plain_literals =
    int ∷ word (codes "true") ∷ word (codes "false") ∷ word (codes "null") ∷ []

-- Behind MOD or CONVERT, if one of them is next, else here.
abbrev pub IsMissingAt : List Token → List Token → Type 0
IsMissingAt tokens rest =
    IsNext (Word (codes "mod")) tokens rest
    ⊎ (IsNext (Word (codes "convert")) tokens rest
    ⊎ ((rest ≡ tokens) × IsTrue
    (are_missing (word (codes "mod") ∷ word (codes "convert") ∷ []) tokens)))
