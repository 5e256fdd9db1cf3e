-- Where a text stands in entries that are in order, or would have to stand.
use Rattle.std.specs.Prelude.{◌≡◌, ℕ, ◌<◌, ◌≤◌, List, length, slice_index_or}
use Rattle.std.specs.declared.cmp.Ordering.TheVariants.{Less, Greater}
use Rattle.mc_allkeys.specs.Texts.{text_cmp}
use Rattle.mc_allkeys.specs.declared.element.Element.{Element}

-- The entry at a place is that of the text.
abbrev pub IsFoundAt : List (List ℕ × List Element) → List ℕ → ℕ → Type 0
IsFoundAt entries text place =
    (place < length entries) ×
    ((e : List ℕ × List Element) → (slice_index_or entries place e).0 ≡ text)

-- The entries in front of a place are below the text, and those from there on are above it.
abbrev pub IsGapAt : List (List ℕ × List Element) → List ℕ → ℕ → Type 0
IsGapAt entries text place =
    (place ≤ length entries) ×
    ((k : ℕ) (e : List ℕ × List Element) → k < place →
    text_cmp (slice_index_or entries k e).0 text ≡ Less) ×
    ((k : ℕ) (e : List ℕ × List Element) → place ≤ k → k < length entries →
    text_cmp (slice_index_or entries k e).0 text ≡ Greater)
