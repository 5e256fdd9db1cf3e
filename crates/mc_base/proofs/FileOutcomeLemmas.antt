-- What comes of a file that was not read.
use Rattle.std.proofs.Common.{◌≡◌, Result, Err, ap, ◌∙◌}
use Rattle.mc_base.specs.FileOutcome.{HasOutcome, IsRefusedAs}
use Rattle.mc_base.specs.Results.{result_and_then}
use Rattle.mc_base.specs.declared.file.FileFault.{FileFault}
use Rattle.mc_base.specs.declared.file.FileFault.TheVariants.{Refused, Fault, NoMemory}
use Rattle.mc_base.specs.declared.refusal.FileRefusal.{FileRefusal}

-- The reason for want of a file is one for want of what comes of it.
pub HasOutcome-and_then : {A B C D : Type 0} (seen : A → B) (seen' : C → D) (next : B → Result D FileRefusal) (fault : FileFault) (outcome : Result B FileRefusal)
    → HasOutcome {T = A} {U = B} seen (Err fault) outcome
    → HasOutcome {T = C} {U = D} seen' (Err fault) (result_and_then next outcome)
HasOutcome-and_then seen seen' next (Refused refusal) outcome h = ap (result_and_then next) h
HasOutcome-and_then seen seen' next Fault outcome h = tt
HasOutcome-and_then seen seen' next NoMemory outcome h = tt

-- The refusal of an outcome, or want of memory for it.
pub HasOutcome-refused : {T U : Type 0} (seen : T → U) (outcome : Result U FileRefusal) (wanted : FileRefusal) (fault : FileFault)
    → outcome ≡ Err wanted → IsRefusedAs fault wanted → HasOutcome seen (Err fault) outcome
HasOutcome-refused seen outcome wanted (Refused refusal) e h = e ∙ ap (λ r. Err r) h
HasOutcome-refused seen outcome wanted Fault e h = absurd h
HasOutcome-refused seen outcome wanted NoMemory e h = tt
