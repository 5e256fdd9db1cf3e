-- Entries put into a table, each in the place of the one that its text may have.
use Rattle.std.specs.Prelude.{◌≡◌, ◌≢◌, ℕ, ◌<◌, List, [], Some, slice_index_or}
use Rattle.std.specs.FinMap as map
use Rattle.mc_allkeys.specs.Table.{ElementTable}
use Rattle.mc_allkeys.specs.declared.element.Element.{Element}

-- A text is none of the first ones.
abbrev pub IsNoneOf : List (List ℕ) → ℕ → List ℕ → Type 0
IsNoneOf texts count text = (k : ℕ) → k < count → slice_index_or texts k [] ≢ text

-- The first texts have the elements at their places; every other entry and the ranges stay.
pub record IsPut (texts : List (List ℕ)) (elements : List (List Element)) (count : ℕ)
    (old new : ElementTable) : Type 0 where
  pub given : (k : ℕ) → k < count →
      map.get new.entries (slice_index_or texts k []) ≡ Some (slice_index_or elements k [])
  pub others : (text : List ℕ) → IsNoneOf texts count text →
      map.get new.entries text ≡ map.get old.entries text
  pub ranges : new.ranges ≡ old.ranges
