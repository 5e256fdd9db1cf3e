-- Files in memory: a list of names and bytes, the rest of the open file, and the plan of faults.
use Rattle.std.specs.Prelude.{◌≡◌, ℕ, List, [], Bool, true, false, Option, None, Some, option_map}
use Rattle.std.specs.List.{find}
use Rattle.std.specs.Str.{bytes_eq}
use Rattle.mc_base.specs.FaultPlan.{Plan}
use Rattle.mc_base.specs.declared.outside.OpenAnswer.{OpenAnswer}
use Rattle.mc_base.specs.declared.outside.OpenAnswer.TheVariants.{Opened, Absent, Failed, NoMemory}
use Rattle.mc_base.specs.declared.outside.ReadAnswer.{ReadAnswer}
use Rattle.mc_base.specs.declared.outside.ReadAnswer.TheVariants.{Got, Failed as ReadFailed}

-- what files in memory hold
pub record FilesState : Type 0 where
  pub files : List (List ℕ × List ℕ)
  pub plan : Plan
  pub rest : Option (List ℕ)

-- the bytes of the first file of a name
abbrev pub contents_of : List (List ℕ × List ℕ) → List ℕ → Option (List ℕ)
contents_of files name = option_map (λ file. file.1) (find (λ file. bytes_eq file.0 name) files)

-- the rest of the open file; nothing where none is open
abbrev pub rest_told : Option (List ℕ) → List ℕ
rest_told None = []
rest_told (Some rest) = rest

-- An open fails exactly where it is planned, and memory is never wanted.
abbrev pub OpensAsPlanned : OpenAnswer → Bool → Type 0
OpensAsPlanned Failed planned = planned ≡ true
OpensAsPlanned Opened planned = planned ≡ false
OpensAsPlanned Absent planned = planned ≡ false
OpensAsPlanned NoMemory planned = ⊥

-- A read fails exactly where it is planned.
abbrev pub ReadsAsPlanned : ReadAnswer → Bool → Type 0
ReadsAsPlanned ReadFailed planned = planned ≡ true
ReadsAsPlanned (Got n) planned = planned ≡ false
