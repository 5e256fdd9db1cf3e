-- Tokens as spans that cover all bytes but spaces and comments: MySQL 8.0 manual, 9.1, 9.2 and 9.7.
use Rattle.std.specs.Prelude.{◌≡◌, ℕ, ◌+◌, ◌<◌, ◌≤◌, true, List, []}
use Rattle.std.specs.Prelude.{◌∷◌, ◌++◌, length}
use Rattle.mc_token.specs.Comments.{OpensLine}
use Rattle.mc_token.specs.Cut.{Takes}
use Rattle.mc_token.specs.Spelled.{IsSpelled}
use Rattle.mc_token.specs.Lexemes.{lexeme_of}
use Rattle.mc_token.specs.Tokens.{is_blank}
use Rattle.mc_token.specs.declared.element.Element.{Element}
use Rattle.mc_token.specs.declared.lexeme.Lexeme.{Lexeme}
use Rattle.mc_token.specs.declared.lexeme.Token.{Token}
use Rattle.mc_token.specs.declared.spelling.Shape.{Shape}

-- Spaces and closed comments alone stand from a place of the script, where these bytes begin, up to
-- another, where those begin.
abbrev pub AreBlanks : List Element → (from : ℕ) → List ℕ → (to : ℕ) → List ℕ
    → Type 0
AreBlanks [] from bytes to behind = (from ≡ to) × (bytes ≡ behind)
AreBlanks (blank ∷ blanks) from bytes to behind =
    (left : List ℕ) × (is_blank blank.kind ≡ true) × Takes bytes blank left
    × AreBlanks blanks (from + blank.len) left to behind

-- These bytes spell a token before what is behind them, and say this. No comment begins with them.
pub record IsToken (spelled behind : List ℕ) (says : Lexeme) : Type 0 where
  pub shape : Shape
  pub is_spelled : IsSpelled shape spelled behind
  pub no_comment : OpensLine (spelled ++ behind) → ⊥
  pub meaning : says ≡ lexeme_of shape spelled

-- A token begins these bytes behind blanks alone, at its span, and some bytes are behind it.
pub record Begins (at : ℕ) (bytes : List ℕ) (token : Token) (behind : List ℕ) : Type 0 where
  pub blanks : List Element
  pub spelled : List ℕ
  pub are_blanks : AreBlanks blanks at bytes token.span.start (spelled ++ behind)
  pub end_is : token.span.end ≡ token.span.start + length spelled
  pub is_token : IsToken spelled behind token.kind

-- The tokens cover the script but for blanks, from the place where these bytes begin up to another,
-- where those begin.
abbrev pub Cover : (at : ℕ) → List ℕ → List Token → (to : ℕ) → List ℕ → Type 0
Cover at bytes [] to behind = (blanks : List Element) × AreBlanks blanks at bytes to behind
Cover at bytes (token ∷ tokens) to behind =
    (left : List ℕ) × Begins at bytes token left × Cover token.span.end left tokens to behind

-- The tokens cover all of a statement that ends at a place.
abbrev pub AreTokens : (end at : ℕ) → List ℕ → List Token → Type 0
AreTokens end at bytes tokens = (behind : List ℕ) × Cover at bytes tokens end behind

-- The tokens cover it up to a byte where neither a blank nor a token begins that ends within it.
pub record StopsAt (end at : ℕ) (bytes : List ℕ) (place : ℕ) : Type 0 where
  pub tokens : List Token
  pub behind : List ℕ
  pub covered : Cover at bytes tokens place behind
  pub within : place < end
  pub no_blank : (blank : Element) (left : List ℕ) → is_blank blank.kind ≡ true
      → Takes behind blank left → place + blank.len ≤ end → ⊥
  pub no_token : (spelled left : List ℕ) (says : Lexeme) → behind ≡ spelled ++ left
      → IsToken spelled left says → place + length spelled ≤ end → ⊥

-- What begins at a place of the script, where these bytes begin, ends within the statement.
pub record EndsWithin (end place : ℕ) (bytes : List ℕ) : Type 0 where
  pub blanks : (blank : Element) (left : List ℕ) → is_blank blank.kind ≡ true
      → Takes bytes blank left → place + blank.len ≤ end
  pub tokens : (spelled left : List ℕ) (says : Lexeme) → bytes ≡ spelled ++ left
      → IsToken spelled left says → place + length spelled ≤ end
