-- Conversion between character sets: MySQL 8.0 manual, 10.10 and 12.10.
use Rattle.std.specs.Prelude.{◌≡◌, ℕ, ◌-◌, ◌%◌, ◌<◌, Bool, true, false, not}
use Rattle.std.specs.Prelude.{◌&&◌, ◌||◌, List, []}
use Rattle.std.specs.Prelude.{◌∷◌, ◌++◌, Option, Some, None, length, take, map}
use Rattle.std.specs.Prelude.{slice_index, nat_lt}
use Rattle.std.specs.Prelude.{unwrap_or, MatchBool, if◌then◌else◌}
use Rattle.std.specs.List.{flat_map}
use Rattle.std.specs.Option.{is_some}
use Rattle.mc_charset.specs.declared.charset.Charset.{Charset}
use Rattle.mc_charset.specs.declared.charset.Charset.TheVariants.{Ucs2, Utf16, Utf32, Binary}
use Rattle.mc_charset.specs.Chars.{spell, chars, is_spelled, Spells, IsWellFormed}

-- The set is binary.
abbrev pub is_binary : Charset → Bool
is_binary Binary = true
is_binary set = false

-- The set `to` has this character of a text in `from`.
-- Of the bytes of binary it has those below 80, as ASCII.
abbrev pub fits : Charset → Charset → ℕ → Bool
fits from to code = (not (is_binary from) || nat_lt code 0x80) && is_some (spell to code)

-- the character itself where `to` has it, else `?`
abbrev pub stand_in : Charset → Charset → ℕ → ℕ
stand_in from to code = if fits from to code then code else 0x3F

-- The text is converted: to binary the bytes stay; to other sets each character is itself or `?`.
abbrev pub IsConverted : Charset → Charset → List ℕ → List ℕ → Type 0
IsConverted from to text converted =
    MatchBool (is_binary to) (converted ≡ text)
    (Spells to (map (stand_in from to) (chars from text)) converted)

-- the spelling of a character in a set that has it
abbrev pub spelling : Charset → ℕ → List ℕ
spelling set code = unwrap_or (spell set code) []

-- the converted text as a function: the spellings of its characters, one behind the other
unfoldable pub converted_text : Charset → Charset → List ℕ → List ℕ
converted_text from to text =
    if is_binary to then text
    else flat_map (λ code. spelling to (stand_in from to code)) (chars from text)

-- `to` has each character of the text.
abbrev pub AllFit : Charset → Charset → List ℕ → Type 0
AllFit from to text =
    (k : ℕ) → k < length (chars from text)
    → fits from to (slice_index (chars from text) k) ≡ true

-- No character is lost.
abbrev pub IsLossless : Charset → Charset → List ℕ → Type 0
IsLossless from to text = MatchBool (is_binary to) Unit (AllFit from to text)

-- `to` has each spelling of `from`. Both are binary, or none is.
pub record HasSpellings (to from : Charset) : Type 0 where
  pub spelled : (codes text : List ℕ) → Spells from codes text → Spells to codes text
  pub alike : is_binary from ≡ is_binary to

-- Each character has in `to` the bytes that it has in the text.
pub record KeepsBytes (from to : Charset) (text : List ℕ) : Type 0 where
  pub spelled : Spells to (map (stand_in from to) (chars from text)) text
  pub all_fit : AllFit from to text

-- The first character that `to` lacks stands at this place, counted in characters from 0.
pub record IsFirstUnfit (from to : Charset) (text : List ℕ) (place : ℕ) : Type 0 where
  pub within : place < length (chars from text)
  pub unfit : fits from to (slice_index (chars from text) place) ≡ false
  pub earlier_fit : (k : ℕ) → k < place
      → fits from to (slice_index (chars from text) k) ≡ true

-- The first lost character stands at this place. To binary none is lost.
abbrev pub IsFirstLost : Charset → Charset → List ℕ → ℕ → Type 0
IsFirstLost from to text place = (is_binary to ≡ false) × IsFirstUnfit from to text place

-- how many bytes the shortest spellings of a set have
abbrev pub unit_len : Charset → ℕ
unit_len Ucs2 = 2
unit_len Utf16 = 2
unit_len Utf32 = 4
unit_len set = 1

-- the bytes behind so many zero bytes that their number is a multiple of the set's unit
abbrev pub padded : Charset → List ℕ → List ℕ
padded to bytes =
    take ((unit_len to - length bytes % unit_len to) % unit_len to) (0 ∷ 0 ∷ 0 ∷ []) ++ bytes

-- The answer is the text, or nothing exactly where it is malformed.
abbrev pub IsTaken : Charset → List ℕ → Option (List ℕ) → Type 0
IsTaken to text None = IsWellFormed to text → ⊥
IsTaken to text (Some taken) = (taken ≡ text) × IsWellFormed to text

-- The answer is the padded bytes, or nothing exactly where they are malformed.
abbrev pub IsReinterpreted : Charset → List ℕ → Option (List ℕ) → Type 0
IsReinterpreted to bytes answer = IsTaken to (padded to bytes) answer

-- what bytes are taken for, as a function: the padded bytes, where they are a text of the set
unfoldable pub taken_for : Charset → List ℕ → Option (List ℕ)
taken_for set bytes =
    if is_spelled set (padded set bytes) then Some (padded set bytes) else None
