-- The statements of a script as the parts between its semicolons: MySQL 8.0 manual, 4.5.1.
use Rattle.std.specs.Prelude.{ℕ, ◌+◌, not, List, [], ◌∷◌, ◌++◌, take_while}
use Rattle.std.specs.Prelude.{if◌then◌else◌}
use Rattle.std.specs.List.{list_any, slice_split}
use Rattle.mc_base.specs.declared.span.Span.{Span}
use Rattle.mc_token.specs.Statements.{is_content, is_end}
use Rattle.mc_token.specs.declared.element.Element.{Element}

-- How many bytes the elements have.
abbrev pub len_of : List Element → ℕ
len_of [] = 0
len_of (element ∷ elements) = element.len + len_of elements

-- The elements split at the semicolons.
abbrev pub parts_of : List Element → List (List Element)
parts_of elements = slice_split (λ element. is_end element.kind) elements

-- The statement of a part that begins at a place: from its first element of content to its end. A
-- part without content has none.
abbrev pub statement_of : ℕ → List Element → List Span
statement_of at part =
    if list_any (λ element. is_content element.kind) part
    then record {
      start = at + len_of (take_while (λ element. not (is_content element.kind)) part);
      end = at + len_of part;
    } ∷ []
    else []

-- The statements of parts, the first of which begins at a place. Behind each is a semicolon, of one
-- byte.
abbrev pub statements_of : ℕ → List (List Element) → List Span
statements_of at [] = []
statements_of at (part ∷ parts) =
    statement_of at part ++ statements_of (at + len_of part + 1) parts
