-- A refused element table is refused by the outcome of its text.
use Rattle.std.proofs.Common.{◌≡◌, ℕ, List, Result, Err, ap, refl}
use Rattle.std.specs.Result.{result_map_both}
use Rattle.mc_allkeys.specs.KeysFile.{HasFault}
use Rattle.mc_allkeys.specs.Table.{ElementTable}
use Rattle.mc_allkeys.specs.declared.fault.KeysFault.{KeysFault}
use Rattle.mc_allkeys.specs.declared.fault.KeysFault.TheVariants.{BadLine, TooLongContraction, TooManyElements, Repeated, TooManyContractions, NoMemory}
use Rattle.mc_base.specs.FileOutcome.{HasOutcome, IsRefusedAs}
use Rattle.mc_base.specs.Results.{result_and_then}
use Rattle.mc_base.specs.declared.file.FileFault.{FileFault}
use Rattle.mc_base.specs.declared.file.FileFault.TheVariants.{NoMemory as OutOfMemory}
use Rattle.mc_base.specs.declared.refusal.FileRefusal.{FileRefusal}
use Rattle.mc_base.proofs.FileOutcomeLemmas.{HasOutcome-refused}
use Rattle.mc_book.proofs.ToldLemmas.{short_of_memory}
use Rattle.mc_book.specs.UcaOutcome.{keys_refusal}

-- What comes of a table that a text has not.
keys_then : {U : Type 0} (next : ElementTable → Result U FileRefusal) (name : List ℕ) → Result ElementTable KeysFault → Result U FileRefusal
keys_then next name outcome = result_and_then next (result_map_both (λ table. table) (keys_refusal name) outcome)

refused_keys : {T U : Type 0} (seen : T → U) (next : ElementTable → Result U FileRefusal) (name : List ℕ) (outcome : Result ElementTable KeysFault) (fault : KeysFault) (answer : FileFault) →
    outcome ≡ Err fault → IsRefusedAs answer (keys_refusal name fault) → HasOutcome seen (Err answer) (keys_then next name outcome)
unfolding keys_then
refused_keys seen next name outcome fault answer h e =
    HasOutcome-refused seen _ (keys_refusal name fault) answer (ap (keys_then next name) h) e

-- The fault of an element table's text, told of its file.
pub told_keys_fault : {T U : Type 0} (seen : T → U) (next : ElementTable → Result U FileRefusal) (name : List ℕ) (outcome : Result ElementTable KeysFault) (fault : KeysFault) (answer : FileFault) →
    HasFault outcome fault → IsRefusedAs answer (keys_refusal name fault) → (fault ≡ NoMemory → answer ≡ OutOfMemory) →
    HasOutcome seen (Err answer) (result_and_then next (result_map_both (λ table. table) (keys_refusal name) outcome))
unfolding keys_then
told_keys_fault seen next name outcome (BadLine line) answer h e m = refused_keys seen next name outcome (BadLine line) answer h e
told_keys_fault seen next name outcome (TooLongContraction line) answer h e m = refused_keys seen next name outcome (TooLongContraction line) answer h e
told_keys_fault seen next name outcome (TooManyElements line) answer h e m = refused_keys seen next name outcome (TooManyElements line) answer h e
told_keys_fault seen next name outcome (Repeated line) answer h e m = refused_keys seen next name outcome (Repeated line) answer h e
told_keys_fault seen next name outcome (TooManyContractions line) answer h e m = refused_keys seen next name outcome (TooManyContractions line) answer h e
told_keys_fault seen next name outcome NoMemory answer h e m = short_of_memory seen _ answer (m refl)
