-- What a call gives, beside what the definitions say.
use Rattle.std.specs.Prelude.{◌≡◌, ℕ, Bool, Result, Ok, Err}
use Rattle.mc_base.specs.declared.no_memory.NoMemory.{NoMemory as Lack}
use Rattle.mc_base.specs.declared.refusal.Refusal.{Refusal}
use Rattle.mc_typing.specs.declared.fault.TypeFault.{TypeFault}
use Rattle.mc_typing.specs.declared.fault.TypeFault.TheVariants.{Refused, NoMemory}

-- It is the value or the refusal that is wanted. Want of memory takes the place of any.
abbrev pub IsWanted : {T : Type 0} → Result T TypeFault → Result T Refusal → Type 0
IsWanted (Ok value) wanted = wanted ≡ Ok value
IsWanted (Err (Refused refusal)) wanted = wanted ≡ Err refusal
IsWanted (Err NoMemory) wanted = Unit {0}

-- The fault that comes of a refusal, or of want of memory for it.
abbrev pub fault_of : Result Refusal Lack → TypeFault
fault_of (Ok refusal) = Refused refusal
fault_of (Err lack) = NoMemory

-- What is left in a place is the value that is wanted, or the refusal is.
abbrev pub IsLeft : {T : Type 0} → Result Unit TypeFault → T → Result T Refusal → Type 0
IsLeft (Ok done) left wanted = wanted ≡ Ok left
IsLeft (Err (Refused refusal)) left wanted = wanted ≡ Err refusal
IsLeft (Err NoMemory) left wanted = Unit {0}

-- The same where the call also says whether something is so.
abbrev pub IsGathered : {T : Type 0} → Result Bool TypeFault → T → Result (T × Bool) Refusal
    → Type 0
IsGathered (Ok is) left wanted = wanted ≡ Ok (left, is)
IsGathered (Err (Refused refusal)) left wanted = wanted ≡ Err refusal
IsGathered (Err NoMemory) left wanted = Unit {0}

-- The same where the call also moves a number on.
abbrev pub IsMade : {T : Type 0} → Result T TypeFault → ℕ → Result (T × ℕ) Refusal → Type 0
IsMade (Ok value) number wanted = wanted ≡ Ok (value, number)
IsMade (Err (Refused refusal)) number wanted = wanted ≡ Err refusal
IsMade (Err NoMemory) number wanted = Unit {0}
