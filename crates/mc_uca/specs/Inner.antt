-- Which code points stand in a contraction behind its first place.
use Rattle.std.specs.Prelude.{◌≡◌, ℕ, Bool, true, false, List, ◌∷◌, ◌++◌, slice_index_or}
use Rattle.std.specs.List.{Contains}

-- whether a code point is marked
abbrev pub inner_at : List Bool → ℕ → Bool
inner_at marks code = slice_index_or marks code false

-- Each code point behind the first place of a contraction is marked.
abbrev pub MarksInner : List (List ℕ) → List Bool → Type 0
MarksInner contractions marks =
    (first code : ℕ) (front rest : List ℕ) →
    Contains contractions (first ∷ front ++ code ∷ rest) → inner_at marks code ≡ true
