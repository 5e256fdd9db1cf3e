-- The items of a pattern, read from its characters: MySQL 8.0 manual, 12.8.1, LIKE.
use Rattle.std.specs.Prelude.{ℕ, ◌+◌, Bool, false, ◌==◌, if◌then◌else◌, List, []}
use Rattle.std.specs.Prelude.{◌∷◌}
use Rattle.std.specs.Prelude.{Option, Some, None}
use Rattle.mc_like.specs.declared.item.PatternItem.{PatternItem}
use Rattle.mc_like.specs.declared.item.PatternItem.TheVariants.{Literal, One, Any}

-- `%`, for any number of characters
abbrev pub percent_sign : ℕ
percent_sign = 0x25

-- `_`, for one character
abbrev pub low_line : ℕ
low_line = 0x5F

-- what a character that is not escaped stands for
abbrev pub item_of : ℕ → PatternItem
item_of code =
    if code == percent_sign then Any else (if code == low_line then One else Literal code)

-- The character is the pattern's escape.
abbrev pub is_escape : Option ℕ → ℕ → Bool
is_escape None code = false
is_escape (Some escape) code = code == escape

-- the items of a pattern: the escape makes the next character a literal, and is one itself at the
-- pattern's end
unfoldable pub items_of : Option ℕ → List ℕ → List PatternItem
items_of escape [] = []
items_of escape (code ∷ []) =
    (if is_escape escape code then Literal code else item_of code) ∷ []
items_of escape (code ∷ next ∷ codes) =
    if is_escape escape code then Literal next ∷ items_of escape codes
    else item_of code ∷ items_of escape (next ∷ codes)

-- the literals before the first `%` or `_`
unfoldable pub literal_front : List PatternItem → List ℕ
literal_front [] = []
literal_front (Literal code ∷ items) = code ∷ literal_front items
literal_front (One ∷ items) = []
literal_front (Any ∷ items) = []

-- how many literals there are
unfoldable pub literal_count : List PatternItem → ℕ
literal_count [] = 0
literal_count (Literal code ∷ items) = 1 + literal_count items
literal_count (One ∷ items) = literal_count items
literal_count (Any ∷ items) = literal_count items
