-- Files of weights of bytes: MySQL 8.0 manual, 10.14.3, in the project's own line format.
use Rattle.std.specs.Prelude.{◌≡◌, ◌≢◌, ℕ, ◌<◌, ⊤, List, Option, Some, None}
use Rattle.mc_base.specs.FirstFault.{HasNoFault, IsFirstFault}
use Rattle.mc_table8.specs.Table8.{byte_entry}
use Rattle.mc_table8.specs.Listing.{weights_of}
use Rattle.mc_table8.specs.LineFaults.{said_by, fault_of}
use Rattle.mc_table8.specs.declared.format.Format.TheVariants.{Bytes}
use Rattle.mc_table8.specs.declared.fault.TableFault.{TableFault}
use Rattle.mc_table8.specs.declared.fault.TableFault.TheVariants.{BadLine, Repeated, Missing}
use Rattle.mc_table8.specs.declared.fault.TableFault.TheVariants.{NoMemory}
use Rattle.mc_table8.specs.declared.weight_line.WeightLine.{WeightLine}

-- No line has a fault, and each byte's entry is what the lines say: the weights of the line that
-- lists it, else with `default =` the byte itself.
pub record IsTable8Of (lines : List (ℕ × List ℕ)) (entries : List (ℕ × Option ℕ)) : Type 0 where
  pub no_fault : HasNoFault (fault_of Bytes) lines
  pub each_byte : (byte : ℕ) → byte < 256 →
      weights_of (said_by Bytes lines) byte ≡ Some (byte_entry entries byte)

-- A byte is the least one to which no line gives weights.
pub record IsLeastWithout (said : List WeightLine) (byte : ℕ) : Type 0 where
  pub is_byte : byte < 256
  pub without : weights_of said byte ≡ None
  pub least : (k : ℕ) → k < byte → weights_of said k ≢ None

-- A file has this fault: the first fault of a line, else the least byte without weights. For want
-- of memory any file may be refused.
abbrev pub IsTable8Fault : List (ℕ × List ℕ) → TableFault → Type 0
IsTable8Fault lines (BadLine number) = IsFirstFault (fault_of Bytes) lines (BadLine number)
IsTable8Fault lines (Repeated number) = IsFirstFault (fault_of Bytes) lines (Repeated number)
IsTable8Fault lines (Missing byte) =
    HasNoFault (fault_of Bytes) lines × IsLeastWithout (said_by Bytes lines) byte
IsTable8Fault lines NoMemory = ⊤
