-- A text cut at a byte.
use Rattle.std.specs.Prelude.{ℕ, ◌+◌, ◌==◌, List, take, drop, Option, option_map, position}
use Rattle.std.specs.List.{slice_split}

-- the parts between the bytes of this value
abbrev pub parts_at : ℕ → List ℕ → List (List ℕ)
parts_at byte text = slice_split (λ b. b == byte) text

-- what stands before the first byte of this value, and what behind it
abbrev pub cut_at : ℕ → List ℕ → Option (List ℕ × List ℕ)
cut_at byte text =
    option_map (λ place. (take place text, drop (place + 1) text)) (position (λ b. b == byte) text)
