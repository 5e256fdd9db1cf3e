-- The answers of a source of files: POSIX.1, open and read, with the answers named.
use Rattle.std.specs.Prelude.{◌≡◌, ◌<◌, ◌≤◌, ℕ, List, [], ◌++◌, length, take, Option, None, Some, ⊤}
use Rattle.mc_base.specs.Faults.{Rose}
use Rattle.mc_base.specs.declared.outside.OpenAnswer.{OpenAnswer}
use Rattle.mc_base.specs.declared.outside.OpenAnswer.TheVariants.{Opened, Absent, Failed, NoMemory}
use Rattle.mc_base.specs.declared.outside.ReadAnswer.{ReadAnswer}
use Rattle.mc_base.specs.declared.outside.ReadAnswer.TheVariants.{Got, Failed as ReadFailed}

-- `open` answered this of a name with this content: the rest of the open file is the whole content.
abbrev pub OpenTells : OpenAnswer → Option (List ℕ) → List ℕ → Type 0
OpenTells Opened content rest = content ≡ Some rest
OpenTells Absent content rest = content ≡ None
OpenTells Failed content rest = ⊤
OpenTells NoMemory content rest = ⊤

-- `open` fails only where the count of faults rose.
abbrev pub OpenCause : OpenAnswer → ℕ → ℕ → Type 0
OpenCause Failed before after = Rose before after
OpenCause Opened before after = ⊤
OpenCause Absent before after = ⊤
OpenCause NoMemory before after = ⊤

-- `read` answered this: the next bytes of the rest stand in the buffer, and the others are left.
abbrev pub ReadTells : ReadAnswer → List ℕ → List ℕ → List ℕ → Type 0
ReadTells (Got n) buffer rest left =
    (rest ≡ take n buffer ++ left) × (n ≡ 0 → 0 < length buffer → rest ≡ [])
ReadTells ReadFailed buffer rest left = left ≡ rest

-- `read` gives no more than the buffer holds, and fails only where the count of faults rose.
abbrev pub ReadCause : ReadAnswer → ℕ → ℕ → ℕ → Type 0
ReadCause (Got n) room before after = n ≤ room
ReadCause ReadFailed room before after = Rose before after
