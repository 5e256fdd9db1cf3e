-- Files of weights of code points: MySQL 8.0 manual, 10.10.1, in the project's own line format.
use Rattle.std.specs.Prelude.{◌≡◌, ℕ, ◌≤◌, ⊤, List}
use Rattle.std.specs.Option.{option_map_or}
use Rattle.mc_base.specs.FirstFault.{HasNoFault, IsFirstFault}
use Rattle.mc_table8.specs.General.{code_weight}
use Rattle.mc_table8.specs.Listing.{listed_weights}
use Rattle.mc_table8.specs.LineFaults.{said_by, fault_of}
use Rattle.mc_table8.specs.declared.format.Format.TheVariants.{Codes}
use Rattle.mc_table8.specs.declared.fault.TableFault.{TableFault}
use Rattle.mc_table8.specs.declared.fault.TableFault.TheVariants.{BadLine, Repeated, Missing}
use Rattle.mc_table8.specs.declared.fault.TableFault.TheVariants.{NoMemory}
use Rattle.mc_table8.specs.declared.weight_line.WeightLine.{WeightLine}

-- the weight of a code point: that of the line that lists it, else the code point itself
abbrev pub weight_by : List WeightLine → ℕ → ℕ
weight_by said code = option_map_or (λ weights. weights.0) (listed_weights said code) code

-- No line has a fault, and each code point's weight is what the lines say.
pub record IsGeneralOf (lines : List (ℕ × List ℕ)) (weights : List ℕ) : Type 0 where
  pub no_fault : HasNoFault (fault_of Codes) lines
  pub each_code : (code : ℕ) → code ≤ 0xFFFF →
      code_weight weights code ≡ weight_by (said_by Codes lines) code

-- A file has this fault: the first fault of a line. For want of memory any file may be refused.
abbrev pub IsGeneralFault : List (ℕ × List ℕ) → TableFault → Type 0
IsGeneralFault lines (BadLine number) = IsFirstFault (fault_of Codes) lines (BadLine number)
IsGeneralFault lines (Repeated number) = IsFirstFault (fault_of Codes) lines (Repeated number)
IsGeneralFault lines (Missing byte) = ⊥
IsGeneralFault lines NoMemory = ⊤
