-- How long the contractions are that begin with a code point.
use Rattle.std.specs.Prelude.{ℕ, ◌≤◌, List, ◌∷◌, length, slice_index_or}
use Rattle.std.specs.List.{Contains}

-- the length that is noted for a code point, else 1
abbrev pub reach_at : List ℕ → ℕ → ℕ
reach_at lens code = slice_index_or lens code 1

-- No contraction is longer than what is noted for the code point that it begins with.
abbrev pub Reaches : List (List ℕ) → List ℕ → Type 0
Reaches contractions lens =
    (code : ℕ) (rest : List ℕ) → Contains contractions (code ∷ rest) →
    length (code ∷ rest) ≤ reach_at lens code
