-- The faults of the lines of an element table, in the order in which a line is tested.
use Rattle.std.specs.Prelude.{◌≡◌, ℕ, ◌+◌, ◌&&◌, Bool, ⊤, nat_le, nat_lt, List, [], ◌∷◌, ◌++◌}
use Rattle.std.specs.Prelude.{length, map, Option, Some, None, if◌then◌else◌}
use Rattle.std.specs.FinMap as fin
use Rattle.std.specs.List.{filter_map}
use Rattle.mc_allkeys.specs.Said.{Said, said_of}
use Rattle.mc_allkeys.specs.Said.Said.{Bad, Skipped, Surrogate, Ranged, Listed}
use Rattle.mc_allkeys.specs.Table.{Entries, ElementTable, is_long, contractions_of, start_of}
use Rattle.mc_allkeys.specs.declared.element.Element.{Element}
use Rattle.mc_allkeys.specs.declared.fault.KeysFault.{KeysFault}
use Rattle.mc_allkeys.specs.declared.fault.KeysFault.TheVariants.{BadLine, TooLongContraction}
use Rattle.mc_allkeys.specs.declared.fault.KeysFault.TheVariants.{TooManyElements, Repeated}
use Rattle.mc_allkeys.specs.declared.fault.KeysFault.TheVariants.{TooManyContractions, NoMemory}
use Rattle.mc_allkeys.specs.declared.range.Range.{Range}

-- what numbered lines say
abbrev pub said_lines : List (ℕ × List ℕ) → List Said
said_lines lines = map (λ line. said_of line.1) lines

-- the text and the elements that a line lists
abbrev pub entry_said : Said → Option (List ℕ × List Element)
entry_said (Listed codes elements) = Some (codes, elements)
entry_said _ = None

-- the range that a line says
abbrev pub range_said : Said → Option Range
range_said (Ranged range) = Some range
range_said _ = None

-- the table of what lines say
abbrev pub table_by : List Said → ElementTable
table_by said = record {
  entries = fin.from_entries (filter_map entry_said said);
  ranges = filter_map range_said said;
}

-- the greatest number of contractions
abbrev pub greatest_count : ℕ
greatest_count = 4096

-- whether a range ends at or above its start, and lies within 8000 code points from the start of
-- its base
abbrev pub range_fits : List Range → Range → Bool
range_fits ranges range =
    nat_le range.first range.last && nat_le (start_of ranges range.base range.first) range.first
    && nat_le range.last (start_of ranges range.base range.first + 0x7FFF)

-- the fault of a listed text behind some entries, if it has one
abbrev pub listed_fault : List ℕ → List Element → Entries → ℕ → Option KeysFault
listed_fault codes elements entries number =
    if nat_lt 6 (length codes) then Some (TooLongContraction number)
    else if nat_lt 32 (length elements) then Some (TooManyElements number)
    else if fin.contains_key entries codes then Some (Repeated number)
    else if is_long codes && nat_le greatest_count (length (contractions_of entries)) then
    Some (TooManyContractions number)
    else None

-- the fault of what a line says behind a table, if it has one
abbrev pub fault_by : Said → ElementTable → ℕ → Option KeysFault
fault_by Bad table number = Some (BadLine number)
fault_by Skipped table number = None
fault_by Surrogate table number = None
fault_by (Ranged range) table number =
    if range_fits table.ranges range then None else Some (BadLine number)
fault_by (Listed codes elements) table number = listed_fault codes elements table.entries number

-- the fault of a numbered line behind the lines before it, if it has one
abbrev pub fault_of : List (ℕ × List ℕ) → ℕ × List ℕ → Option KeysFault
fault_of before line = fault_by (said_of line.1) (table_by (said_lines before)) line.0

-- A line was refused: it has this fault behind a table. For want of memory any line may be refused.
abbrev pub HasLineFault : Said → ElementTable → ℕ → KeysFault → Type 0
HasLineFault said table number (BadLine n) = fault_by said table number ≡ Some (BadLine n)
HasLineFault said table number (TooLongContraction n) =
    fault_by said table number ≡ Some (TooLongContraction n)
HasLineFault said table number (TooManyElements n) =
    fault_by said table number ≡ Some (TooManyElements n)
HasLineFault said table number (Repeated n) = fault_by said table number ≡ Some (Repeated n)
HasLineFault said table number (TooManyContractions n) =
    fault_by said table number ≡ Some (TooManyContractions n)
HasLineFault said table number NoMemory = ⊤

-- the table behind one more line
abbrev pub with_line : ElementTable → Said → ElementTable
with_line table (Listed codes elements) =
    record { entries = fin.insert table.entries codes elements; ranges = table.ranges }
with_line table (Ranged range) =
    record { entries = table.entries; ranges = table.ranges ++ range ∷ [] }
with_line table _ = table
