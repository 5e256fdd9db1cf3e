-- The pieces of a text: UTS #10, S2.1, contiguous matches alone.
use Rattle.std.specs.Prelude.{◌≡◌, ℕ, zero, suc, ◌-◌, ◌≤◌, max, List, [], ◌∷◌, length, map, filter}
use Rattle.std.specs.Prelude.{fold, take, drop, nat_eq}
use Rattle.std.specs.List.{starts_with}

-- the length of the piece that begins a text: the greatest of 1 and the lengths of the contractions
-- that begin it
unfoldable pub piece_len : List (List ℕ) → List ℕ → ℕ
piece_len contractions codes =
    fold max 1 (map length (filter (λ text. starts_with nat_eq codes text) contractions))

-- A cut of a text is right: each piece is the longest contraction that begins the codes from its
-- place on, or the one code there if none does.
abbrev pub IsRightCut : List (List ℕ) → List ℕ → List (List ℕ) → Type 0
IsRightCut contractions codes [] = codes ≡ []
IsRightCut contractions codes (piece ∷ pieces) =
    (1 ≤ length codes) × (piece ≡ take (piece_len contractions codes) codes) ×
    IsRightCut contractions (drop (piece_len contractions codes) codes) pieces

-- the pieces of a text whose first codes belong to the piece before
abbrev pub pieces_behind : List (List ℕ) → ℕ → List ℕ → List (List ℕ)
pieces_behind contractions skipped [] = []
pieces_behind contractions zero (code ∷ codes) =
    take (piece_len contractions (code ∷ codes)) (code ∷ codes)
    ∷ pieces_behind contractions (piece_len contractions (code ∷ codes) - 1) codes
pieces_behind contractions (suc skipped) (code ∷ codes) = pieces_behind contractions skipped codes

-- the pieces of a text
abbrev pub pieces : List (List ℕ) → List ℕ → List (List ℕ)
pieces contractions codes = pieces_behind contractions 0 codes
