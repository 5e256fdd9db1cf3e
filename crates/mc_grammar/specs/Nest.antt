-- How deep the tokens of a forest stand, where some symbols of an alternative stand one level
-- deeper than the alternative.
use Rattle.std.specs.Prelude.{◌≡◌, ℕ, suc, ◌≤◌, Bool, true, false, List, []}
use Rattle.std.specs.Prelude.{◌∷◌, ◌++◌}
use Rattle.mc_grammar.specs.Reading.{Forest, bare, leaf, node}

-- A token that may not stand deeper than the limit, and one that may.
pub data Marked (T : Type 0) : Type 0 where
  bound : T → Marked T
  free : T → Marked T

-- The token without its mark.
abbrev pub unmarked : {T : Type 0} → Marked T → T
unmarked (bound token) = token
unmarked (free token) = token

-- Whether the first of the symbols stands one level deeper, and which of the others do.
abbrev pub first_mark : List Bool → Bool
first_mark [] = false
first_mark (mark ∷ marks) = mark

abbrev pub other_marks : List Bool → List Bool
other_marks [] = []
other_marks (mark ∷ marks) = marks

-- A token and the level that it stands at.
pub record Nested (T : Type 0) : Type 0 where
  pub token : T
  pub level : ℕ

-- A level, or the one below it.
abbrev pub level_at : Bool → ℕ → ℕ
level_at false level = level
level_at true level = suc level

-- The tokens of a forest and their levels, where the marks say which of its trees stand one level
-- deeper.
abbrev pub nested : {A T : Type 0} → (A → List Bool) → ℕ → List Bool → Forest A T
    → List (Nested T)
nested deeper level marks bare = []
nested deeper level marks (leaf token others) =
    record { token = token; level = level_at (first_mark marks) level }
    ∷ nested deeper level (other_marks marks) others
nested deeper level marks (node a inner others) =
    nested deeper (level_at (first_mark marks) level) (deeper a) inner
    ++ nested deeper level (other_marks marks) others

-- The marked tokens are these, and no bound one stands deeper than the limit.
abbrev pub AreWithin : {T : Type 0} → ℕ → List (Nested T) → List (Marked T) → Type 0
AreWithin limit [] [] = Unit
AreWithin limit [] (x ∷ marked) = ⊥
AreWithin limit (n ∷ ns) [] = ⊥
AreWithin limit (n ∷ ns) (bound token ∷ marked) =
    (n.token ≡ token) × (n.level ≤ limit) × AreWithin limit ns marked
AreWithin limit (n ∷ ns) (free token ∷ marked) =
    (n.token ≡ token) × AreWithin limit ns marked
