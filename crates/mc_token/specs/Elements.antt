-- The elements of a script, each as long as it can be: MySQL 8.0 manual, 9.1.1 and 9.7.
use Rattle.std.specs.Prelude.{ℕ, ◌+◌, ◌-◌, Bool, false, ◌||◌, ◌&&◌, not, ◌==◌}
use Rattle.std.specs.Prelude.{List, [], ◌∷◌}
use Rattle.std.specs.Prelude.{Option, Some, None, unwrap_or, zero, suc, length, drop, slice_index}
use Rattle.std.specs.Prelude.{position, if◌then◌else◌}
use Rattle.mc_token.specs.Bytes.{is_space, line_feed, exclamation, double_quote, number_sign}
use Rattle.mc_token.specs.Bytes.{single_quote, star, dash, slash, semicolon, backslash}
use Rattle.mc_token.specs.declared.element.Element.{Element}
use Rattle.mc_token.specs.declared.element.Kind.{Kind}
use Rattle.mc_token.specs.declared.element.Kind.TheVariants.{Space, Comment, Quoted, Unclosed}
use Rattle.mc_token.specs.declared.element.Kind.TheVariants.{Semicolon, Other}

-- How many bytes stand before the next line feed, or before the end.
abbrev pub line_len : List ℕ → ℕ
line_len bytes = unwrap_or (position (λ byte. byte == line_feed) bytes) (length bytes)

-- What stands behind a `-` makes a comment of it: a second one, and then a space or the end.
abbrev pub is_dash_comment : List ℕ → Bool
is_dash_comment [] = false
is_dash_comment (second ∷ behind) =
    second == dash && (length behind == 0 || is_space (slice_index behind 0))

-- What stands behind a `/` makes a comment of it: a star, and no exclamation mark.
abbrev pub is_block_comment : List ℕ → Bool
is_block_comment behind = slice_index behind 0 == star && not (slice_index behind 1 == exclamation)

-- A comment to the end of its line begins here.
abbrev pub opens_line : ℕ → List ℕ → Bool
opens_line first behind = first == number_sign || (first == dash && is_dash_comment behind)

-- A comment up to `*/` begins here.
abbrev pub opens_block : ℕ → List ℕ → Bool
opens_block first behind = first == slash && is_block_comment behind

-- Where the first `*/` ends, these bytes beginning at a place.
unfoldable pub block_end : ℕ → List ℕ → Option ℕ
block_end at [] = None
block_end at (byte ∷ behind) =
    if byte == star && slice_index behind 0 == slash then Some (at + 2)
    else block_end (at + 1) behind

-- Where a string ends whose quote stands before these bytes, which begin at a place: behind the
-- first quote that no backslash hides and that isn't doubled.
unfoldable pub quote_end : ℕ → ℕ → List ℕ → Option ℕ
quote_end quote at [] = None
quote_end quote at (byte ∷ []) = if byte == quote then Some (at + 1) else None
quote_end quote at (byte ∷ next ∷ behind) =
    if byte == quote && not (next == quote) then Some (at + 1)
    else (if byte == quote || byte == backslash then quote_end quote (at + 2) behind
    else quote_end quote (at + 1) (next ∷ behind))

-- An element of one byte.
abbrev pub single : Kind → Element
single kind = record { kind = kind; len = 1 }

-- An element that ends at this place behind its first byte, or is never closed.
abbrev pub closed : Kind → Option ℕ → List ℕ → Element
closed kind (Some end) behind = record { kind = kind; len = 1 + end }
closed kind None behind = record { kind = Unclosed; len = 1 + length behind }

-- The element that a byte begins, beside the bytes behind it.
unfoldable pub element_of : ℕ → List ℕ → Element
element_of first behind =
    if is_space first then single Space
    else (if first == semicolon then single Semicolon
    else (if opens_line first behind then record { kind = Comment; len = 1 + line_len behind }
    else (if opens_block first behind then closed Comment (block_end 1 (drop 1 behind)) behind
    else (if first == single_quote || first == double_quote
    then closed Quoted (quote_end first 0 behind) behind
    else single Other))))

-- The elements of what is behind the first `skipped` bytes.
unfoldable pub elements_behind : ℕ → List ℕ → List Element
elements_behind skipped [] = []
elements_behind (suc skipped) (byte ∷ behind) = elements_behind skipped behind
elements_behind zero (byte ∷ behind) =
    element_of byte behind ∷ elements_behind ((element_of byte behind).len - 1) behind

-- The elements of these bytes, from the first byte to the last.
abbrev pub elements : List ℕ → List Element
elements bytes = elements_behind 0 bytes
