-- Where the parts of a statement stand.
use Rattle.std.specs.Prelude.{List, [], ◌∷◌}
use Rattle.mc_base.specs.declared.span.Span.{Span}
use Rattle.mc_token.specs.declared.lexeme.Token.{Token}

-- From the start of one to the end of another.
abbrev pub from_to : Span → Span → Span
from_to first last = record { start = first.start; end = last.end }

-- From the first token to the last, where the first is at `first`.
abbrev pub span_from : Span → List Token → Span
span_from first [] = first
span_from first (token ∷ tokens) = from_to first (span_from token.span tokens)

-- The bytes from the first to the last of the tokens.
abbrev pub span_of : List Token → Span
span_of [] = record { start = 0; end = 0 }
span_of (token ∷ tokens) = span_from token.span tokens
