-- What lines list, held as one cell for each code.
use Rattle.std.specs.Prelude.{◌≡◌, ◌≢◌, ℕ, ◌+◌, ◌≤◌, ◌<◌, ⊤, Bool, IsTrue, List, length}
use Rattle.std.specs.Prelude.{slice_index_or, Option, Some, None, if◌then◌else◌}
use Rattle.std.specs.Option.{option_or, option_map_or}
use Rattle.mc_table8.specs.Runs.{lists_code, weight_in}
use Rattle.mc_table8.specs.Table8.{byte_entry}
use Rattle.mc_table8.specs.Listing.{Cell, listed_weights, has_rest}
use Rattle.mc_table8.specs.declared.fault.TableFault.{TableFault}
use Rattle.mc_table8.specs.declared.fault.TableFault.TheVariants.{BadLine, Repeated, Missing}
use Rattle.mc_table8.specs.declared.fault.TableFault.TheVariants.{NoMemory}
use Rattle.mc_table8.specs.declared.run.Run.{Run}
use Rattle.mc_table8.specs.declared.weight_line.WeightLine.{WeightLine}

-- Each cell up to the greatest code has the weights that the lines give the code, if one lists it.
pub record IsListing (greatest : ℕ) (cells : List Cell) (rest : Bool)
    (lines : List WeightLine) : Type 0 where
  pub all_codes : length cells ≡ greatest + 1
  pub each_cell : (code : ℕ) → code ≤ greatest →
      slice_index_or cells code None ≡ listed_weights lines code
  pub default_stands : rest ≡ has_rest lines

-- The cells of a run were empty and have its weights; the others stay.
pub record IsFilled (run : Run) (second : Option ℕ) (before after : List Cell) : Type 0 where
  pub same_codes : length after ≡ length before
  pub were_empty : (code : ℕ) → IsTrue (lists_code run code) →
      slice_index_or before code None ≡ None
  pub each_cell : (code : ℕ) → slice_index_or after code None ≡
      (if lists_code run code then Some (weight_in run code, second)
      else slice_index_or before code None)

-- Some cell of a run was filled.
abbrev pub IsTaken : Run → List Cell → Type 0
IsTaken run before =
    (code : ℕ) × IsTrue (lists_code run code) × (slice_index_or before code None ≢ None)

-- A cell's weights are at most the greatest one.
abbrev pub IsSmall : ℕ → Cell → Type 0
IsSmall greatest None = ⊤
IsSmall greatest (Some (weight, None)) = weight ≤ greatest
IsSmall greatest (Some (weight, Some second)) = (weight ≤ greatest) × (second ≤ greatest)

-- the weights of a code by its cell: with `default =` an empty one stands for the code itself
abbrev pub cell_weights : Bool → Cell → ℕ → Cell
cell_weights rest cell code = option_or cell (if rest then Some (code, None) else None)

-- The cells have these entries, byte by byte.
abbrev pub HasEntries : List Cell → Bool → List (ℕ × Option ℕ) → Type 0
HasEntries cells rest entries = (byte : ℕ) → byte < length entries →
    cell_weights rest (slice_index_or cells byte None) byte ≡ Some (byte_entry entries byte)

-- A byte is the least one without weights.
abbrev pub IsLeastEmpty : List Cell → Bool → ℕ → Type 0
IsLeastEmpty cells rest byte =
    (byte < length cells) × (cell_weights rest (slice_index_or cells byte None) byte ≡ None) ×
    ((k : ℕ) → k < byte → cell_weights rest (slice_index_or cells k None) k ≢ None)

-- The fault of cells: the least byte without weights, or want of memory.
abbrev pub IsEmptyFault : List Cell → Bool → TableFault → Type 0
IsEmptyFault cells rest (BadLine number) = ⊥
IsEmptyFault cells rest (Repeated number) = ⊥
IsEmptyFault cells rest (Missing byte) = IsLeastEmpty cells rest byte
IsEmptyFault cells rest NoMemory = ⊤

-- the weight of a code point by its cell: an empty one stands for the code point itself
abbrev pub cell_weight : Cell → ℕ → ℕ
cell_weight cell code = option_map_or (λ weights. weights.0) cell code

-- The cells have these weights, code point by code point.
abbrev pub HasWeights : List Cell → List ℕ → Type 0
HasWeights cells weights = (code : ℕ) → code < length weights →
    slice_index_or weights code 0 ≡ cell_weight (slice_index_or cells code None) code
