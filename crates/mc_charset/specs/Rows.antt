-- Rows of byte sequences, in the form of the Unicode Standard's Table 3-7.
use Rattle.std.specs.Prelude.{ℕ, ◌+◌, ◌-◌, ◌*◌, ◌/◌, ◌%◌, ◌&&◌, Bool}
use Rattle.std.specs.Prelude.{List, [], ◌∷◌, Option, Some}
use Rattle.std.specs.Prelude.{None, length, nat_lt, nat_le, if◌then◌else◌}
use Rattle.std.specs.Option.{option_map, option_or}

-- the bytes from one to another, both included
pub record Range : Type 0 where
  pub least : ℕ
  pub greatest : ℕ

-- a row: the byte sequences of these ranges, in their order, spell the code points from `first` on,
-- in theirs
pub record Row : Type 0 where
  pub first : ℕ
  pub bytes : List Range

-- how many byte sequences these ranges have
abbrev pub count : List Range → ℕ
count [] = 1
count (r ∷ rs) = (r.greatest + 1 - r.least) * count rs

-- the byte sequence of these ranges at a place, counted from 0
abbrev pub sequence : List Range → ℕ → List ℕ
sequence [] n = []
sequence (r ∷ rs) n = (r.least + n / count rs) ∷ sequence rs (n % count rs)

-- The row has this code point.
abbrev pub has_code : Row → ℕ → Bool
has_code row code = nat_le row.first code && nat_lt code (row.first + count row.bytes)

-- the spelling of a code point by the first row that has it
abbrev pub spelling_in : List Row → ℕ → Option (List ℕ)
spelling_in [] code = None
spelling_in (row ∷ rows) code =
    if has_code row code then Some (sequence row.bytes (code - row.first))
    else spelling_in rows code

-- the place of the byte sequence of these ranges that begins the bytes, where one does
abbrev pub place : List Range → List ℕ → Option ℕ
place [] bytes = Some 0
place (r ∷ rs) [] = None
place (r ∷ rs) (b ∷ bytes) =
    if nat_le r.least b && nat_le b r.greatest
    then option_map (λ n. (b - r.least) * count rs + n) (place rs bytes) else None

-- the code point whose spelling begins the bytes, and how many bytes spell it, by the first row
-- that has such a spelling
abbrev pub first_in : List Row → List ℕ → Option (ℕ × ℕ)
first_in [] bytes = None
first_in (row ∷ rows) bytes =
    option_or (option_map (λ n. (row.first + n, length row.bytes)) (place row.bytes bytes))
    (first_in rows bytes)
