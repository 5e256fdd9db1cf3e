-- The numbers by which rows are grouped: equal rows have equal ones.
use Rattle.std.specs.Prelude.{ℕ, ◌/◌, ◌%◌, pos, negsuc, List, [], ◌∷◌, ◌++◌, length}
use Rattle.std.specs.List.{flat_map}
use Rattle.mc_key.specs.Keys.{kept_list}
use Rattle.mc_order.specs.Meaning.{Meaning}
use Rattle.mc_values.specs.declared.value.Value.{Value}
use Rattle.mc_values.specs.declared.value.Value.TheVariants as value
use Rattle.mc_group.specs.declared.cell.Cell.{Cell}
use Rattle.mc_group.specs.declared.cell.Cell.TheVariants as cell
use Rattle.mc_group.specs.declared.kind.KeyKind.{KeyKind}
use Rattle.mc_group.specs.declared.kind.KeyKind.TheVariants as kind
use Rattle.mc_group.specs.Cells.{each_with}
use Rattle.mc_group.specs.Order.{number_in, weights_in}

-- What a value that is not NULL is grouped by: of a text, what a key keeps of its weights.
abbrev pub present_key : (ℕ → Meaning) → KeyKind → Value → Cell
present_key meaning kind.Int it = cell.Number (number_in it)
present_key meaning (kind.Text id) it =
    let m = meaning id.0 in cell.Weights (kept_list m.pad m.space (weights_in m it))

-- What a value is grouped by.
abbrev pub key_cell : (ℕ → Meaning) → KeyKind → Value → Cell
key_cell meaning of value.Null = cell.Null
key_cell meaning of it = present_key meaning of it

-- A number as two of 32 bits.
abbrev pub halves : ℕ → List ℕ
halves n = n / 4294967296 ∷ n % 4294967296 ∷ []

-- The numbers of a cell: its kind, its size, and its weights.
unfoldable pub cell_frame : Cell → List ℕ
cell_frame cell.Null = 0 ∷ []
cell_frame (cell.Number (pos n)) = 1 ∷ halves n
cell_frame (cell.Number (negsuc n)) = 2 ∷ halves n
cell_frame (cell.Weights weights) = 3 ∷ (halves (length weights) ++ weights)

-- The numbers of a row: those of its cells, one behind the other.
abbrev pub row_frame : (ℕ → Meaning) → List KeyKind → List Value → List ℕ
row_frame meaning kinds row =
    flat_map cell_frame (each_with (key_cell meaning) value.Null kinds row)
