-- Files of element tables: UTS #10, 9 and 10.1.3, in the project's own reading of their lines.
use Rattle.std.specs.Prelude.{◌≡◌, ℕ, ⊤, List, Option, Some, None, Result, Ok, Err}
use Rattle.std.specs.FinMap as fin
use Rattle.std.specs.List.{filter_map}
use Rattle.mc_base.specs.FirstFault.{HasNoFault, IsFirstFault, first_fault}
use Rattle.mc_base.specs.Lines.{lines_of}
use Rattle.mc_allkeys.specs.Faults.{said_lines, entry_said, range_said, table_by, fault_of}
use Rattle.mc_allkeys.specs.Table.{ElementTable}
use Rattle.mc_allkeys.specs.Texts.{text_cmp}
use Rattle.mc_allkeys.specs.declared.fault.KeysFault.{KeysFault}
use Rattle.mc_allkeys.specs.declared.fault.KeysFault.TheVariants.{BadLine, TooLongContraction}
use Rattle.mc_allkeys.specs.declared.fault.KeysFault.TheVariants.{TooManyElements, Repeated}
use Rattle.mc_allkeys.specs.declared.fault.KeysFault.TheVariants.{TooManyContractions, NoMemory}

-- No line has a fault; each text has the elements of the line that lists it, and the ranges are
-- those of the lines.
pub record IsKeysOf (lines : List (ℕ × List ℕ)) (table : ElementTable) : Type 0 where
  pub no_fault : HasNoFault fault_of lines
  pub each_text : (text : List ℕ) →
      fin.get table.entries text ≡ fin.find text_cmp text (filter_map entry_said (said_lines lines))
  pub ranges : table.ranges ≡ filter_map range_said (said_lines lines)

-- A file has this fault: the first one of a line. For want of memory any file may be refused.
abbrev pub IsKeysFault : List (ℕ × List ℕ) → KeysFault → Type 0
IsKeysFault lines (BadLine number) = IsFirstFault fault_of lines (BadLine number)
IsKeysFault lines (TooLongContraction number) =
    IsFirstFault fault_of lines (TooLongContraction number)
IsKeysFault lines (TooManyElements number) = IsFirstFault fault_of lines (TooManyElements number)
IsKeysFault lines (Repeated number) = IsFirstFault fault_of lines (Repeated number)
IsKeysFault lines (TooManyContractions number) =
    IsFirstFault fault_of lines (TooManyContractions number)
IsKeysFault lines NoMemory = ⊤

-- a table, or the fault that takes its place
abbrev pub unless_fault : ElementTable → Option KeysFault → Result ElementTable KeysFault
unless_fault table None = Ok table
unless_fault table (Some fault) = Err fault

-- the table of a text, or its fault
unfoldable pub keys_outcome : List ℕ → Result ElementTable KeysFault
keys_outcome text =
    unless_fault (table_by (said_lines (lines_of text))) (first_fault fault_of (lines_of text))

-- A fault is the one of the outcome; want of memory takes its place.
abbrev pub HasFault : Result ElementTable KeysFault → KeysFault → Type 0
HasFault outcome (BadLine number) = outcome ≡ Err (BadLine number)
HasFault outcome (TooLongContraction number) = outcome ≡ Err (TooLongContraction number)
HasFault outcome (TooManyElements number) = outcome ≡ Err (TooManyElements number)
HasFault outcome (Repeated number) = outcome ≡ Err (Repeated number)
HasFault outcome (TooManyContractions number) = outcome ≡ Err (TooManyContractions number)
HasFault outcome NoMemory = ⊤
