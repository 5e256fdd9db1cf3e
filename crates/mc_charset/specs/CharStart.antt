-- Where a character of a text begins.
use Rattle.std.specs.Prelude.{◌≡◌, ℕ, ◌≤◌, ◌||◌, Bool, nat_lt, List, []}
use Rattle.std.specs.Prelude.{◌∷◌, Some, length, take}
use Rattle.std.specs.Prelude.{drop}
use Rattle.mc_charset.specs.declared.charset.Charset.{Charset}
use Rattle.mc_charset.specs.Chars.{spell, chars, Spells}
use Rattle.mc_charset.specs.Tables.{behind}

-- Behind `start` bytes the character `k` begins, counted from 0: the first `k` characters, or all
-- where the text has no more, spell the bytes before it, and the others those behind it.
pub record IsCharStart (set : Charset) (text : List ℕ) (k start : ℕ) : Type 0 where
  pub within : start ≤ length text
  pub before : Spells set (take k (chars set text)) (take start text)
  pub behind : Spells set (drop k (chars set text)) (drop start text)

-- Each character of the set has so many bytes.
abbrev pub HasWidth : Charset → ℕ → Type 0
HasWidth set width =
    (code : ℕ) (front : List ℕ) → spell set code ≡ Some front → length front ≡ width

-- The byte is not one of 80 to BF, which stand behind the first byte of a character in UTF-8.
abbrev pub is_not_behind : ℕ → Bool
is_not_behind byte = nat_lt byte behind.least || nat_lt behind.greatest byte

-- The byte is not one of D8 to DB, which begin a high surrogate: Unicode Standard, Table 3-5.
abbrev pub is_not_high : ℕ → Bool
is_not_high byte = nat_lt byte 0xD8 || nat_lt 0xDB byte

-- the first bytes of the units of two bytes
abbrev pub unit_firsts : List ℕ → List ℕ
unit_firsts [] = []
unit_firsts (first ∷ []) = []
unit_firsts (first ∷ second ∷ bytes) = first ∷ unit_firsts bytes
