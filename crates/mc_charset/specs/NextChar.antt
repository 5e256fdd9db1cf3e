-- The first character of a text.
use Rattle.std.specs.Prelude.{◌≡◌, ◌≢◌, ◌↔◌, ℕ, ◌<◌, ◌≤◌, List, []}
use Rattle.std.specs.Prelude.{◌∷◌, ◌++◌, Some, None, length}
use Rattle.std.specs.Prelude.{take, drop}
use Rattle.mc_charset.specs.declared.charset.Charset.{Charset}
use Rattle.mc_charset.specs.declared.char_at.CharAt.{CharAt}
use Rattle.mc_charset.specs.declared.char_at.CharAt.TheVariants.{Char, End, Bad}
use Rattle.mc_charset.specs.Rows.{Row, first_in}
use Rattle.mc_charset.specs.Chars.{spell, chars, code_points, IsWellFormed}

-- The spelling of this code point, so many bytes, begins the text.
pub record IsFirst (set : Charset) (text : List ℕ) (code : ℕ) (len : ℕ) : Type 0 where
  pub spelled : spell set code ≡ Some (take len text)
  pub positive : 0 < len
  pub within : len ≤ length text
  pub is_code_point : code < code_points

-- No spelling of the set begins the text.
abbrev pub BeginsBadly : Charset → List ℕ → Type 0
BeginsBadly set text =
    (code : ℕ) (front rest : List ℕ) → spell set code ≡ Some front
    → text ≢ front ++ rest

-- The answer is the character whose spelling begins the text, or says why there is none.
abbrev pub IsNextChar : Charset → List ℕ → CharAt → Type 0
IsNextChar set text (Char code len) = IsFirst set text code len
IsNextChar set text End = text ≡ []
IsNextChar set text Bad = (text ≢ []) × BeginsBadly set text

-- The answer is the first of the text's characters, which stands before those of the rest, and the
-- text is well formed exactly where the rest is; or the text has no characters.
abbrev pub HeadsChars : Charset → List ℕ → CharAt → Type 0
HeadsChars set text (Char code len) =
    (chars set text ≡ code ∷ chars set (drop len text))
    × (IsWellFormed set text ↔ IsWellFormed set (drop len text))
HeadsChars set text End = (chars set text ≡ []) × IsWellFormed set text
HeadsChars set text Bad = (chars set text ≡ []) × (IsWellFormed set text → ⊥)

-- The answer is what these rows have at the front of the text.
abbrev pub IsFound : List Row → List ℕ → CharAt → Type 0
IsFound rows text (Char code len) = first_in rows text ≡ Some (code, len)
IsFound rows text End = text ≡ []
IsFound rows text Bad = (text ≢ []) × (first_in rows text ≡ None)
