-- What holds of the tokens of any statement: MySQL 8.0 manual, 9.1.1 and 10.3.7.
use Rattle.std.specs.Prelude.{◌≡◌, ℕ, ◌≤◌, ◌<◌, false, List, [], ◌∷◌}
use Rattle.std.specs.Char.{is_ascii_uppercase}
use Rattle.std.specs.List.{AllByRecursion}
use Rattle.std.specs.Str.{IsUtf8}
use Rattle.mc_token.specs.declared.lexeme.Lexeme.{Lexeme}
use Rattle.mc_token.specs.declared.lexeme.Lexeme.TheVariants.{Word, Name, Str, National}
use Rattle.mc_token.specs.declared.lexeme.Token.{Token}

-- Each token has a byte or more and stands behind the one before it, all between these places.
abbrev pub AreInOrder : ℕ → ℕ → List Token → Type 0
AreInOrder from to [] = from ≤ to
AreInOrder from to (token ∷ tokens) =
    (from ≤ token.span.start) × (token.span.start < token.span.end)
    × AreInOrder token.span.end to tokens

-- The text is UTF-8, if this is a string.
abbrev pub HasUtf8Text : Lexeme → Type 0
HasUtf8Text (Str text) = IsUtf8 text
HasUtf8Text (National text) = IsUtf8 text
HasUtf8Text other = Unit {0}

-- The texts of the strings are UTF-8.
abbrev pub HaveUtf8Texts : List Token → Type 0
HaveUtf8Texts tokens = AllByRecursion (λ token. HasUtf8Text token.kind) tokens

-- The text has none of the letters A to Z.
abbrev pub IsFolded : List ℕ → Type 0
IsFolded text = AllByRecursion (λ byte. is_ascii_uppercase byte ≡ false) text

-- The text is in lower case, if this is a word or a name.
abbrev pub HasFoldedText : Lexeme → Type 0
HasFoldedText (Word text) = IsFolded text
HasFoldedText (Name text) = IsFolded text
HasFoldedText other = Unit {0}

-- The texts of the words and names are in lower case.
abbrev pub HaveFoldedTexts : List Token → Type 0
HaveFoldedTexts tokens = AllByRecursion (λ token. HasFoldedText token.kind) tokens
