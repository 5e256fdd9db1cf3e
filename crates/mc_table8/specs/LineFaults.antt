-- The faults of the lines of a weight file: a bad line, and one that repeats an earlier one.
use Rattle.std.specs.Prelude.{ℕ, List, Option, Some, None, if◌then◌else◌, ⊤}
use Rattle.std.specs.List.{list_any, filter_map}
use Rattle.mc_base.specs.FirstFault.{IsFirstFault}
use Rattle.mc_table8.specs.Listing.{repeats}
use Rattle.mc_table8.specs.WeightLines.{line_of}
use Rattle.mc_table8.specs.declared.format.Format.{Format}
use Rattle.mc_table8.specs.declared.weight_line.WeightLine.{WeightLine}
use Rattle.mc_table8.specs.declared.fault.TableFault.{TableFault}
use Rattle.mc_table8.specs.declared.fault.TableFault.TheVariants.{BadLine, Repeated, Missing}
use Rattle.mc_table8.specs.declared.fault.TableFault.TheVariants.{NoMemory}

-- what numbered lines say, those left out that are bad
abbrev pub said_by : Format → List (ℕ × List ℕ) → List WeightLine
said_by format lines = filter_map (λ line. line_of format line.1) lines

-- the fault of what a line says, if it says something, behind what earlier lines said
abbrev pub fault_by : Option WeightLine → List WeightLine → ℕ → Option TableFault
fault_by None earlier number = Some (BadLine number)
fault_by (Some line) earlier number =
    if list_any (repeats line) earlier then Some (Repeated number) else None

-- the fault of a numbered line behind the lines before it, if it has one
abbrev pub fault_of : Format → List (ℕ × List ℕ) → ℕ × List ℕ → Option TableFault
fault_of format before line = fault_by (line_of format line.1) (said_by format before) line.0

-- The fault of a file's lines: the first one of a line; for want of memory any file may be refused.
abbrev pub IsLineFault : Format → List (ℕ × List ℕ) → TableFault → Type 0
IsLineFault format lines (BadLine number) = IsFirstFault (fault_of format) lines (BadLine number)
IsLineFault format lines (Repeated number) = IsFirstFault (fault_of format) lines (Repeated number)
IsLineFault format lines (Missing byte) = ⊥
IsLineFault format lines NoMemory = ⊤
