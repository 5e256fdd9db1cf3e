-- What a piece of a statement says of its tokens.
use Rattle.std.specs.Prelude.{◌≡◌, ℕ, ◌+◌, ◌<◌, ◌≤◌, List, [], ◌∷◌}
use Rattle.std.specs.Prelude.{drop, Err}
use Rattle.mc_token.specs.Spellings.{least_len}
use Rattle.mc_token.specs.Tokens.{tokens_in, token_of, with_front}
use Rattle.mc_token.specs.declared.lexeme.LexFault.TheVariants.{NoToken}
use Rattle.mc_token.specs.declared.piece.Piece.{Piece}
use Rattle.mc_token.specs.declared.piece.Piece.TheVariants.{Blank, Begun, Nothing}

-- The piece has a byte or more, and no more than these; a token has enough of them.
abbrev pub HasRoom : ℕ → Piece → Type 0
HasRoom room (Blank len) = (0 < len) × (len ≤ room)
HasRoom room (Begun spelling) =
    (0 < spelling.len) × (spelling.len ≤ room) × (least_len spelling.shape ≤ spelling.len)
HasRoom room Nothing = Unit {0}

-- This piece begins at a place of a statement that ends at another.
abbrev pub MeansTokens : (end at : ℕ) → List ℕ → Piece → Type 0
MeansTokens end at script (Blank len) =
    tokens_in end at (drop at script) ≡ tokens_in end (at + len) (drop (at + len) script)
MeansTokens end at script (Begun spelling) = tokens_in end at (drop at script)
    ≡ with_front (token_of at spelling (drop at script) ∷ [])
    (tokens_in end (at + spelling.len) (drop (at + spelling.len) script))
MeansTokens end at script Nothing = tokens_in end at (drop at script) ≡ Err (NoToken at)
