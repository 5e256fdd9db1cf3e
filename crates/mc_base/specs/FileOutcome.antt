-- The outcome of one file: its content, or its refusal.
use Rattle.std.specs.Prelude.{◌≡◌, ℕ, List, Option, Some, None, Result, Ok, Err, nat_lt, length}
use Rattle.std.specs.Prelude.{if◌then◌else◌, codes, ⊤}
use Rattle.mc_base.specs.Faults.{Rose}
use Rattle.mc_base.specs.declared.file.FileFault.{FileFault}
use Rattle.mc_base.specs.declared.file.FileFault.TheVariants.{Refused, Fault, NoMemory}
use Rattle.mc_base.specs.declared.refusal.FileRefusal.{FileRefusal}

-- the greatest length of a file, in bytes
abbrev pub greatest_file : ℕ
greatest_file = 16777216

-- the refusal of the file of a name, by its fault and where that is
abbrev pub file_refusal : List ℕ → List ℕ → ℕ → FileRefusal
file_refusal name fault at = record { name = name; fault = fault; at = at }

-- what a file has, where it is there and at most 16,777,216 bytes long
abbrev pub content_outcome : List ℕ → Option (List ℕ) → Result (List ℕ) FileRefusal
content_outcome name None = Err (file_refusal name (codes "Absent") 0)
content_outcome name (Some text) =
    if nat_lt greatest_file (length text)
    then Err (file_refusal name (codes "TooLong") greatest_file)
    else Ok text

-- the content of the file of a name, or its refusal
abbrev pub file_outcome : (List ℕ → Option (List ℕ)) → List ℕ → Result (List ℕ) FileRefusal
file_outcome files name = content_outcome name (files name)

-- A value, seen so, and a refusal are those of the outcome. A fault of the device and want of
-- memory take their place.
abbrev pub HasOutcome : {T U : Type 0} → (T → U) → Result T FileFault → Result U FileRefusal
    → Type 0
HasOutcome seen (Ok value) outcome = outcome ≡ Ok (seen value)
HasOutcome seen (Err (Refused refusal)) outcome = outcome ≡ Err refusal
HasOutcome seen (Err Fault) outcome = ⊤
HasOutcome seen (Err NoMemory) outcome = ⊤

-- The answer is Fault only where the count of faults rose.
abbrev pub FileCause : {T : Type 0} → Result T FileFault → ℕ → ℕ → Type 0
FileCause (Ok value) before after = ⊤
FileCause (Err (Refused refusal)) before after = ⊤
FileCause (Err Fault) before after = Rose before after
FileCause (Err NoMemory) before after = ⊤

-- The fault is this refusal, or want of memory for it.
abbrev pub IsRefusedAs : FileFault → FileRefusal → Type 0
IsRefusedAs (Refused refusal) wanted = wanted ≡ refusal
IsRefusedAs Fault wanted = ⊥
IsRefusedAs NoMemory wanted = ⊤
