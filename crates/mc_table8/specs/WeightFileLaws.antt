-- What holds of the lines of any weight file.
use Rattle.std.specs.Prelude.{◌≡◌, ℕ, IsTrue, List, ◌++◌, Option, Some, codes, slice_get}
use Rattle.mc_base.specs.FirstFault.{IsFirstFault}
use Rattle.mc_table8.specs.Fields.{number_of}
use Rattle.mc_table8.specs.Runs.{lists_code}
use Rattle.mc_table8.specs.Listing.{weights_by, listed_weights}
use Rattle.mc_table8.specs.LineFaults.{said_by, fault_of}
use Rattle.mc_table8.specs.declared.format.Format.{Format}
use Rattle.mc_table8.specs.declared.fault.TableFault.{TableFault}
use Rattle.mc_table8.specs.declared.run.Run.{Run}
use Rattle.mc_table8.specs.declared.weight_line.WeightLine.{WeightLine}

-- A field is a range: a number, two dots and a number.
abbrev pub IsRange : ℕ → List ℕ → ℕ → ℕ → Type 0
IsRange digits field first last =
    (from : List ℕ) × (to : List ℕ) × (field ≡ from ++ (codes ".." ++ to)) ×
    (number_of digits from ≡ Some first) × (number_of digits to ≡ Some last)

-- A code is in both runs.
abbrev pub IsInBoth : Run → Run → ℕ → Type 0
IsInBoth one other code = IsTrue (lists_code one code) × IsTrue (lists_code other code)

-- Where no line has a fault, a code that some line lists has the weights which that line gives it.
abbrev pub ListedWeightsStand : Format → List (ℕ × List ℕ) → Type 0
ListedWeightsStand format lines = (k : ℕ) (line : WeightLine) (code : ℕ) (given : ℕ × Option ℕ) →
    slice_get (said_by format lines) k ≡ Some line → weights_by line code ≡ Some given →
    listed_weights (said_by format lines) code ≡ Some given

-- Lines have one first fault at most.
abbrev pub IsOneFault : Format → List (ℕ × List ℕ) → Type 0
IsOneFault format lines = (fault other : TableFault) → IsFirstFault (fault_of format) lines fault →
    IsFirstFault (fault_of format) lines other → fault ≡ other
