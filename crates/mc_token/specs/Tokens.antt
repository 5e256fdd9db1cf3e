-- The tokens of a statement, or its first fault.
use Rattle.std.specs.Prelude.{◌≡◌, ℕ, ◌+◌, ◌-◌, Bool, true, false, List, []}
use Rattle.std.specs.Prelude.{◌∷◌, ◌++◌, Option}
use Rattle.std.specs.Prelude.{Some, None, Result, Ok, Err, zero, suc, take, drop, length, nat_le}
use Rattle.std.specs.Prelude.{if◌then◌else◌}
use Rattle.mc_base.specs.declared.span.Span.{Span}
use Rattle.mc_token.specs.Elements.{element_of}
use Rattle.mc_token.specs.Spellings.{spelling_of}
use Rattle.mc_token.specs.Lexemes.{lexeme_of}
use Rattle.mc_token.specs.declared.element.Kind.{Kind}
use Rattle.mc_token.specs.declared.element.Kind.TheVariants.{Space, Comment}
use Rattle.mc_token.specs.declared.lexeme.Token.{Token}
use Rattle.mc_token.specs.declared.lexeme.LexFault.{LexFault}
use Rattle.mc_token.specs.declared.lexeme.LexFault.TheVariants.{NoToken, TooManyTokens, NoMemory}
use Rattle.mc_token.specs.declared.piece.Piece.{Piece}
use Rattle.mc_token.specs.declared.piece.Piece.TheVariants.{Blank, Begun, Nothing}
use Rattle.mc_token.specs.declared.spelling.Spelling.{Spelling}

-- The element is a space or a closed comment.
abbrev pub is_blank : Kind → Bool
is_blank Space = true
is_blank Comment = true
is_blank _ = false

-- How many bytes the space or the closed comment has that a byte begins, if it begins one.
abbrev pub blank_len : ℕ → List ℕ → Option ℕ
blank_len first behind =
    if is_blank (element_of first behind).kind then Some (element_of first behind).len else None

-- The token that a byte begins, if it ends within so many bytes.
abbrev pub token_within : ℕ → Option Spelling → Piece
token_within room None = Nothing
token_within room (Some spelling) = if nat_le spelling.len room then Begun spelling else Nothing

-- What a byte begins in a statement of which so many bytes are left, beside all the bytes of the
-- script behind it.
unfoldable pub piece_of : ℕ → ℕ → List ℕ → Piece
piece_of room first behind = elim (blank_len first behind) [
  | Some len ↦ if nat_le len room then Blank len else Nothing
  | None ↦ token_within room (spelling_of first behind)
]

-- The tokens, with these before them.
abbrev pub with_front : List Token → Result (List Token) LexFault → Result (List Token) LexFault
with_front front (Ok behind) = Ok (front ++ behind)
with_front front (Err fault) = Err fault

-- The token of this spelling that begins these bytes, at a place of the script.
abbrev pub token_of : ℕ → Spelling → List ℕ → Token
token_of at spelling bytes = record {
  span = record { start = at; end = at + spelling.len };
  kind = lexeme_of spelling.shape (take spelling.len bytes);
}

-- The tokens up to a place of the script, behind the first `skipped` of these bytes, which are
-- those of the script from another place on.
unfoldable pub tokens_behind : (end skipped at : ℕ) → List ℕ → Result (List Token) LexFault
tokens_behind end skipped at [] = Ok []
tokens_behind end (suc skipped) at (byte ∷ behind) = tokens_behind end skipped (at + 1) behind
tokens_behind end zero at (byte ∷ behind) =
    if nat_le end at then Ok []
    else elim (piece_of (end - at) byte behind) [
      | Blank len ↦ tokens_behind end (len - 1) (at + 1) behind
      | Begun spelling ↦ with_front (token_of at spelling (byte ∷ behind) ∷ [])
          (tokens_behind end (spelling.len - 1) (at + 1) behind)
      | Nothing ↦ Err (NoToken at)
    ]

-- The tokens up to a place of the script, from the place on where these bytes begin.
abbrev pub tokens_in : (end at : ℕ) → List ℕ → Result (List Token) LexFault
tokens_in end at bytes = tokens_behind end zero at bytes

-- How many tokens a statement may have.
abbrev pub token_limit : ℕ
token_limit = 2048

-- These tokens, if there aren't too many.
abbrev pub limited : Result (List Token) LexFault → Result (List Token) LexFault
limited (Ok tokens) = if nat_le (length tokens) token_limit then Ok tokens else Err TooManyTokens
limited (Err fault) = Err fault

-- The tokens of a statement of the script, however many.
abbrev pub all_tokens : List ℕ → Span → Result (List Token) LexFault
all_tokens script statement =
    tokens_in statement.end statement.start (drop statement.start script)

-- The tokens of a statement of the script.
unfoldable pub tokens_of : List ℕ → Span → Result (List Token) LexFault
tokens_of script statement = limited (all_tokens script statement)

-- The fault of a statement that has these tokens behind as many as it may have, or this fault.
abbrev pub fault_of : Result (List Token) LexFault → LexFault
fault_of (Ok tokens) = TooManyTokens
fault_of (Err fault) = fault

-- The tokens have this fault, or memory ran out.
abbrev pub IsCause : LexFault → Result (List Token) LexFault → Type 0
IsCause NoMemory lexed = Unit {0}
IsCause (NoToken at) lexed = lexed ≡ Err (NoToken at)
IsCause TooManyTokens lexed = lexed ≡ Err TooManyTokens
