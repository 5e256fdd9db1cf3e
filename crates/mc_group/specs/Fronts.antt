-- Fronts of rows: a number of the first cell, by which most rows are told apart.
use Rattle.std.specs.Prelude.{◌≡◌, ℕ, ◌-◌, Bool, true, false, List, [], ◌∷◌, slice_index_or}
use Rattle.std.specs.List.{All}
use Rattle.std.specs.Ordering.{nat_cmp, on, then_cmp}
use Rattle.std.specs.declared.cmp.Ordering.{Ordering}
use Rattle.mc_order.specs.Meaning.{Meaning}
use Rattle.mc_key.specs.Fronts.{front_of}
use Rattle.mc_group.specs.declared.cell.Cell.{Cell}
use Rattle.mc_group.specs.declared.cell.Cell.TheVariants as cell
use Rattle.mc_group.specs.declared.column.Column.{Column}
use Rattle.mc_group.specs.declared.entry.Entry.{Entry}
use Rattle.mc_group.specs.declared.kind.KeyKind.{KeyKind}
use Rattle.mc_values.specs.declared.value.Value.{Value}
use Rattle.mc_group.specs.Cells.{cells_of, entry_order, first_cell}

-- The greatest front, which the fronts of descending columns are taken from.
abbrev pub greatest_front : ℕ
greatest_front = 340282366920938463463374607431768211455

-- The front of a cell, ascending: that of its weights, and 0 where it is no text.
abbrev pub ascending_front : Column → Cell → ℕ
ascending_front column (cell.Weights weights) = front_of column.pad column.space weights
ascending_front column it = 0

abbrev pub turned_front : Bool → ℕ → ℕ
turned_front false front = front
turned_front true front = greatest_front - front

-- The front of a cell, turned round where its column descends.
abbrev pub cell_front : Column → Cell → ℕ
cell_front column it = turned_front column.desc (ascending_front column it)

-- The front of a row's cells: that of the first.
abbrev pub row_front : List Column → List Cell → ℕ
row_front [] cells = 0
row_front (column ∷ columns) cells = cell_front column (first_cell cells)

-- What is sorted for the row at a place.
abbrev pub entry_of : List Column → (ℕ → Meaning) → List KeyKind → List (List Value) → ℕ → Entry
entry_of columns meaning kinds rows place =
    let cells = cells_of meaning kinds (slice_index_or rows place []) in
    record { front = row_front columns cells; cells = cells; place = place }

-- The entry has the front of its cells.
abbrev pub IsFronted : List Column → Entry → Type 0
IsFronted columns entry = entry.front ≡ row_front columns entry.cells

-- All entries have.
abbrev pub AreFronted : List Column → List Entry → Type 0
AreFronted columns entries = All (IsFronted columns) entries

-- The order of two entries, by their fronts where those differ.
abbrev pub fronts_first : List Column → Entry → Entry → Ordering
fronts_first columns =
    then_cmp (on (λ entry. entry.front) nat_cmp) (entry_order columns)
