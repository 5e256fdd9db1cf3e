-- A refused table is refused by the outcome of its text.
use Rattle.std.proofs.Common.{◌≡◌, ℕ, List, Result, Err, ap, refl}
use Rattle.std.specs.Result.{result_map_both}
use Rattle.mc_base.specs.FileOutcome.{HasOutcome, IsRefusedAs}
use Rattle.mc_base.specs.declared.file.FileFault.{FileFault}
use Rattle.mc_base.specs.declared.file.FileFault.TheVariants.{Refused, Fault, NoMemory as OutOfMemory}
use Rattle.mc_base.specs.declared.refusal.FileRefusal.{FileRefusal}
use Rattle.mc_base.proofs.FileOutcomeLemmas.{HasOutcome-and_then, HasOutcome-refused}
use Rattle.mc_book.specs.BookOutcome.{table_refusal}
use Rattle.mc_table8.specs.Outcome.{HasFault}
use Rattle.mc_table8.specs.declared.fault.TableFault.{TableFault}
use Rattle.mc_table8.specs.declared.fault.TableFault.TheVariants.{BadLine, Repeated, Missing, NoMemory}

-- A file that was not read gives nothing that comes of it.
pub ruleset unread_steps = (HasOutcome-and_then)

pub short_of_memory : {T U : Type 0} (seen : T → U) (outcome : Result U FileRefusal) (answer : FileFault) → answer ≡ OutOfMemory → HasOutcome seen (Err answer) outcome
short_of_memory seen outcome (Refused refusal) e = absurd cc
short_of_memory seen outcome Fault e = tt
short_of_memory seen outcome OutOfMemory e = tt

-- The fault of a text, told of its file.
pub told_fault : {T U W : Type 0} (seen : T → U) (meant : W → U) (name : List ℕ) (outcome : Result W TableFault) (fault : TableFault) (answer : FileFault) →
    HasFault outcome fault → IsRefusedAs answer (table_refusal name fault) → (fault ≡ NoMemory → answer ≡ OutOfMemory) →
    HasOutcome seen (Err answer) (result_map_both meant (table_refusal name) outcome)
told_fault seen meant name outcome (BadLine line) answer h e m =
    HasOutcome-refused seen _ (table_refusal name (BadLine line)) answer (ap (result_map_both meant (table_refusal name)) h) e
told_fault seen meant name outcome (Repeated line) answer h e m =
    HasOutcome-refused seen _ (table_refusal name (Repeated line)) answer (ap (result_map_both meant (table_refusal name)) h) e
told_fault seen meant name outcome (Missing byte) answer h e m =
    HasOutcome-refused seen _ (table_refusal name (Missing byte)) answer (ap (result_map_both meant (table_refusal name)) h) e
told_fault seen meant name outcome NoMemory answer h e m = short_of_memory seen _ answer (m refl)
