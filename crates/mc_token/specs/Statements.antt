-- The statements of a script: the parts between its semicolons with more than spaces and comments.
use Rattle.std.specs.Prelude.{ℕ, ◌+◌, Bool, true, false, not, List, [], ◌∷◌, drop}
use Rattle.std.specs.Prelude.{if◌then◌else◌}
use Rattle.mc_base.specs.declared.span.Span.{Span}
use Rattle.mc_token.specs.Elements.{elements}
use Rattle.mc_token.specs.declared.element.Element.{Element}
use Rattle.mc_token.specs.declared.element.Kind.{Kind}
use Rattle.mc_token.specs.declared.element.Kind.TheVariants.{Space, Comment, Quoted, Unclosed}
use Rattle.mc_token.specs.declared.element.Kind.TheVariants.{Semicolon, Other}

-- The element ends a statement.
abbrev pub is_end : Kind → Bool
is_end Semicolon = true
is_end Space = false
is_end Comment = false
is_end Quoted = false
is_end Unclosed = false
is_end Other = false

-- The element can begin a statement: it is neither a space nor a comment, and no semicolon.
abbrev pub is_content : Kind → Bool
is_content Space = false
is_content Comment = false
is_content Semicolon = false
is_content Quoted = true
is_content Unclosed = true
is_content Other = true

-- How many bytes stand before the next semicolon, or before the end.
unfoldable pub statement_len : List Element → ℕ
statement_len [] = 0
statement_len (element ∷ behind) =
    if is_end element.kind then 0 else element.len + statement_len behind

-- The statements that begin in these elements, the first of which is at a byte of the script. One
-- may have begun before them, and none begins up to its semicolon.
unfoldable pub statements_in : (begun : Bool) → ℕ → List Element → List Span
statements_in begun at [] = []
statements_in true at (element ∷ behind) =
    statements_in (not (is_end element.kind)) (at + element.len) behind
statements_in false at (element ∷ behind) =
    if is_content element.kind
    then record { start = at; end = at + statement_len (element ∷ behind) }
    ∷ statements_in true (at + element.len) behind
    else statements_in false (at + element.len) behind

-- The statements of a script from a place on, where none has begun there.
unfoldable pub statements : List ℕ → ℕ → List Span
statements script from = statements_in false from (elements (drop from script))
