-- What is kept for each code point, in pages of 256.
use Rattle.std.specs.Prelude.{◌≡◌, ℕ, ◌+◌, ◌/◌, ◌%◌, ◌≤◌, List, [], take, drop, Option, Some}
use Rattle.std.specs.Prelude.{None, option_map, slice_index_or}
use Rattle.mc_allkeys.specs.declared.element.Element.{Element}
use Rattle.mc_allkeys.specs.declared.page.Cell.{Cell}
use Rattle.mc_allkeys.specs.declared.page.Part.{Part}

-- the cell of a code point of which nothing is known
abbrev pub no_cell : Cell
no_cell = record { part = None; reach = 1 }

-- the cell of a code point in pages
abbrev pub cell_at : List (List Cell) → ℕ → Cell
cell_at pages code = slice_index_or (slice_index_or pages (code / 256) []) (code % 256) no_cell

-- a part of a list
abbrev pub part_of : {X : Type 0} → List X → Part → List X
part_of xs part = take part.len (drop part.start xs)

-- A part that there may be lies within so many members.
abbrev pub IsPartOf : ℕ → Option Part → Type 0
IsPartOf count found = (part : Part) → found ≡ Some part → part.start + part.len ≤ count

-- the elements of a cell, if it has an entry
abbrev pub elements_in : List Element → Cell → Option (List Element)
elements_in elements cell = option_map (part_of elements) cell.part
