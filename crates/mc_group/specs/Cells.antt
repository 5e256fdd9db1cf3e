-- What values are sorted by, made once for each.
use Rattle.std.specs.Prelude.{ℕ, Bool, false, true, ℤ, pos, List, [], ◌∷◌}
use Rattle.std.specs.Prelude.{drop, slice_index_or}
use Rattle.std.specs.Ordering.{flip_args, int_cmp, nat_cmp, on, ordering_then, then_cmp}
use Rattle.std.specs.declared.cmp.Ordering.{Ordering}
use Rattle.std.specs.declared.cmp.Ordering.TheVariants.{Equal}
use Rattle.mc_order.specs.Meaning.{Meaning}
use Rattle.mc_order.specs.declared.pad.Pad.TheVariants.{NoPad}
use Rattle.mc_order.specs.Order.{list_order}
use Rattle.mc_values.specs.declared.value.Value.{Value}
use Rattle.mc_values.specs.declared.value.Value.TheVariants as value
use Rattle.mc_group.specs.declared.cell.Cell.{Cell}
use Rattle.mc_group.specs.declared.cell.Cell.TheVariants as cell
use Rattle.mc_group.specs.declared.column.Column.{Column}
use Rattle.mc_group.specs.declared.entry.Entry.{Entry}
use Rattle.mc_group.specs.declared.kind.KeyKind.{KeyKind}
use Rattle.mc_group.specs.declared.kind.KeyKind.TheVariants as kind
use Rattle.mc_group.specs.Order.{number_in, weights_in}

-- What a value that is not NULL is sorted by.
abbrev pub present_cell : (ℕ → Meaning) → KeyKind → Value → Cell
present_cell meaning kind.Int it = cell.Number (number_in it)
present_cell meaning (kind.Text id) it = cell.Weights (weights_in (meaning id.0) it)

-- What a value is sorted by.
abbrev pub cell_of : (ℕ → Meaning) → KeyKind → Value → Cell
cell_of meaning of value.Null = cell.Null
cell_of meaning of it = present_cell meaning of it

-- What comes of each member of a list, and of what stands at its place in another one.
unfoldable pub each_with : {A B C : Type 0} → (A → B → C) → B → List A → List B → List C
each_with f none [] others = []
each_with f none (x ∷ xs) others =
    f x (slice_index_or others 0 none) ∷ each_with f none xs (drop 1 others)

-- What a row is sorted by.
abbrev pub cells_of : (ℕ → Meaning) → List KeyKind → List Value → List Cell
cells_of meaning kinds row = each_with (cell_of meaning) value.Null kinds row

-- How the cells of a kind compare.
abbrev pub column_of : (ℕ → Meaning) → KeyKind → Bool → Column
column_of meaning kind.Int desc = record { pad = NoPad; space = 0; desc = desc }
column_of meaning (kind.Text id) desc =
    let m = meaning id.0 in record { pad = m.pad; space = m.space; desc = desc }

abbrev pub columns_of : (ℕ → Meaning) → List KeyKind → List Bool → List Column
columns_of meaning kinds desc = each_with (column_of meaning) false kinds desc

abbrev pub rank : Cell → ℕ
rank cell.Null = 0
rank (cell.Number number) = 1
rank (cell.Weights weights) = 2

abbrev pub cell_number : Cell → ℤ
cell_number (cell.Number number) = number
cell_number it = pos 0

abbrev pub cell_weights : Cell → List ℕ
cell_weights (cell.Weights weights) = weights
cell_weights it = []

-- The order of two cells of a column, ascending.
abbrev pub ascending : Column → Cell → Cell → Ordering
ascending column =
    then_cmp (on rank nat_cmp) (then_cmp (on cell_number int_cmp)
    (on cell_weights (list_order column.pad column.space)))

abbrev pub turned : Bool → (Cell → Cell → Ordering) → Cell → Cell → Ordering
turned false order = order
turned true order = flip_args order

-- The order of two cells of a column.
abbrev pub cell_order : Column → Cell → Cell → Ordering
cell_order column = turned column.desc (ascending column)

abbrev pub first_cell : List Cell → Cell
first_cell cells = slice_index_or cells 0 cell.Null

-- The order of two rows' cells: the first that differs decides.
unfoldable pub cells_order : List Column → List Cell → List Cell → Ordering
cells_order [] one other = Equal
cells_order (column ∷ columns) one other =
    ordering_then (cell_order column (first_cell one) (first_cell other))
    (cells_order columns (drop 1 one) (drop 1 other))

-- The order of two entries: that of their cells, and of their places where those are equal.
abbrev pub entry_order : List Column → Entry → Entry → Ordering
entry_order columns =
    then_cmp (on (λ entry. entry.cells) (cells_order columns)) (on (λ entry. entry.place) nat_cmp)
