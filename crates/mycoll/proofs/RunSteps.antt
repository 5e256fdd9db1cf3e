-- From what was written to the task that was done.
use Rattle.std.proofs.Common.{◌≡◌, ℕ, ◌+◌, ◌≤◌, Bool, true, false, List, Option, Some, None, Result, Ok, Err, IfSome, refl, sym, ap, subst, inl, inr, arith}
use Rattle.std.specs.Option.{option_map}
use Rattle.mc_base.specs.declared.refusal.FileRefusal.{FileRefusal}
use Rattle.mc_gather.specs.Indexed.{index_fetches}
use Rattle.mc_token.specs.Statements.{statements}
use Rattle.mycoll.specs.declared.status.Status.{Status}
use Rattle.mycoll.specs.declared.status.Status.TheVariants.{Done, SomeRefused, Usage, FilesRefused, ReadFault, WriteFault, NoMemory}
use Rattle.mycoll.specs.declared.output.Stopped.{Stopped}
use Rattle.mycoll.specs.declared.output.Stopped.TheVariants.{Fault, NoMemory as OutOfMemory}
use Rattle.mycoll.specs.Answering.{AnswersWritten, Written}
use Rattle.mycoll.specs.Costs.{Cost, Costs, IsWithin, compares_of_both}
use Rattle.mycoll.specs.Outcome.{Accepted, files_outcome, refused_line}
use Rattle.mycoll.specs.Run.{Task, accepted_state, accepted_world, task, files_task, IsSpentOn, HasWritten, LineWritten, ScriptWritten, IsComplete, ReadCause, WriteCause, answered_status, line_status}
use Rattle.mycoll.specs.Run.Task.{one_line, script_task}
use Rattle.mycoll.specs.Words.{FileNames, WordsForm, words_form, usage_line}
use Rattle.mycoll.specs.Words.WordsForm.{file_words, no_form}
use Rattle.mycoll.specs.World.{World, State}
use Rattle.mycoll.proofs.AnsweringSteps.{none_answered}
use Rattle.mycoll.proofs.CostSteps.{unspent}

-- The contents of files, if they are told.
abbrev Told : Type 0
Told = Option (List ℕ → Option (List ℕ))

-- The answers that were written are those of the script.
script_written : (w : World) (s : State) (script : List ℕ) (r : Result Bool Stopped) (before after : Option (List ℕ))
    → AnswersWritten w s script r before after → ScriptWritten w s script (answered_status r) before after
script_written w s script (Ok true) before after h = h
script_written w s script (Ok false) before after h = h
script_written w s script (Err Fault) before after h = h
script_written w s script (Err OutOfMemory) before after h = h

-- The usage line was written so.
usage_written : (line : List ℕ) (r : Result (Unit {0}) Stopped) (before after : Option (List ℕ))
    → Written line r before after → LineWritten line Usage (line_status Usage r) before after
usage_written line (Ok _) before after h = record { ends = refl; written = h }
usage_written line (Err Fault) before after h = h
usage_written line (Err OutOfMemory) before after h = h

-- The line of a refused file was written so.
refusal_written : (line : List ℕ) (r : Result (Unit {0}) Stopped) (before after : Option (List ℕ))
    → Written line r before after → LineWritten line FilesRefused (line_status FilesRefused r) before after
refusal_written line (Ok _) before after h = record { ends = refl; written = h }
refusal_written line (Err Fault) before after h = h
refusal_written line (Err OutOfMemory) before after h = h

-- Nothing was written where reading failed.
unread_written : (t : Task) (before : Option (List ℕ)) → HasWritten t ReadFault before before
unread_written (one_line text ends) before = refl
unread_written (script_task w s script) before = refl

-- Memory ran out before anything was written.
lacking_written : (t : Task) (before : Option (List ℕ)) → HasWritten t NoMemory before before
lacking_written (one_line text ends) before = refl
lacking_written (script_task w s script) before =
    none_answered w s script before

-- The task of the files is that of their outcome.
abbrev outcome_task : Result Accepted FileRefusal → Task
outcome_task o = elim o as (λ _. Task) [
  | Ok accepted ↦ script_task (accepted_world accepted) (accepted_state accepted) accepted.script
  | Err refusal ↦ one_line (refused_line refusal) FilesRefused
]

task-is : (files : List ℕ → Option (List ℕ)) (named : FileNames) (outcome : Result Accepted FileRefusal)
    → files_outcome files named ≡ outcome → files_task files named ≡ outcome_task outcome
unfolding files_task
task-is files named outcome e = ap outcome_task e

-- Accepted files whose script was answered so.
pub script_run : (told : Told) (named : FileNames) (accepted : Accepted) (r : Result Bool Stopped) (status : Status) (before after : Option (List ℕ))
    → IfSome told (λ files. files_outcome files named ≡ Ok accepted) → status ≡ answered_status r
    → AnswersWritten (accepted_world accepted) (accepted_state accepted) accepted.script r before after
    → IfSome told (λ files. HasWritten (files_task files named) status before after)
script_run None named accepted r status before after h e w = tt
script_run (Some files) named accepted r status before after h e w =
    subst (λ (t : Task). HasWritten t status before after) (sym (task-is files named (Ok accepted) h))
    (subst (λ (s : Status). ScriptWritten (accepted_world accepted) (accepted_state accepted) accepted.script s before after) (sym e)
    (script_written (accepted_world accepted) (accepted_state accepted) accepted.script r before after w))

-- A refused file whose line was written so.
pub refusal_run : (told : Told) (named : FileNames) (refusal : FileRefusal) (r : Result (Unit {0}) Stopped) (status : Status) (before after : Option (List ℕ))
    → IfSome told (λ files. files_outcome files named ≡ Err refusal)
    → status ≡ line_status FilesRefused r → Written (refused_line refusal) r before after
    → IfSome told (λ files. HasWritten (files_task files named) status before after)
refusal_run None named refusal r status before after h e w = tt
refusal_run (Some files) named refusal r status before after h e w =
    subst (λ (t : Task). HasWritten t status before after) (sym (task-is files named (Err refusal) h))
    (subst (λ (s : Status). LineWritten (refused_line refusal) FilesRefused s before after) (sym e)
    (refusal_written (refused_line refusal) r before after w))

-- Reading a file failed, or memory ran out before anything was written.
pub unread_run : (told : Told) (named : FileNames) (before after : Option (List ℕ)) → after ≡ before
    → IfSome told (λ files. HasWritten (files_task files named) ReadFault before after)
unread_run None named before after e = tt
unread_run (Some files) named before after e =
    subst (λ now. HasWritten (files_task files named) ReadFault before now) (sym e) (unread_written (files_task files named) before)

pub lacking_run : (told : Told) (named : FileNames) (before after : Option (List ℕ)) → after ≡ before
    → IfSome told (λ files. HasWritten (files_task files named) NoMemory before after)
lacking_run None named before after e = tt
lacking_run (Some files) named before after e =
    subst (λ now. HasWritten (files_task files named) NoMemory before now) (sym e) (lacking_written (files_task files named) before)

-- The task of words by their form.
abbrev words_task : Told → WordsForm → Option Task
words_task told form = elim form as (λ _. Option Task) [
  | file_words named ↦ option_map (λ (files : List ℕ → Option (List ℕ)). files_task files named) told
  | no_form ↦ Some (one_line usage_line Usage)
]

-- Words of no form, whose usage line was written so.
pub usage_run : (told : Told) (words : List (List ℕ)) (r : Result (Unit {0}) Stopped) (status : Status) (before after : Option (List ℕ))
    → words_form words ≡ no_form → status ≡ line_status Usage r → Written usage_line r before after
    → IfSome (task told words) (λ t. HasWritten t status before after)
unfolding task
usage_run told words r status before after h e w =
    subst (λ (form : WordsForm). IfSome (words_task told form) (λ t. HasWritten t status before after)) (sym h)
    (subst (λ (s : Status). LineWritten usage_line Usage s before after) (sym e) (usage_written usage_line r before after w))

mapped : (P : Task → Type 0) (told : Told) (named : FileNames)
    → IfSome told (λ files. P (files_task files named))
    → IfSome (option_map (λ (files : List ℕ → Option (List ℕ)). files_task files named) told) P
mapped P None named h = tt
mapped P (Some files) named h = h

-- What holds of the files' task holds of the task of words that name them.
pub named_run : (P : Task → Type 0) (told : Told) (words : List (List ℕ)) (named : FileNames)
    → words_form words ≡ file_words named → IfSome told (λ files. P (files_task files named))
    → IfSome (task told words) P
unfolding task
named_run P told words named h w =
    subst (λ (form : WordsForm). IfSome (words_task told form) P) (sym h) (mapped P told named w)

-- Nothing was spent on a task that isn't begun.
pub idle : (t : Option Task) (fetched compared : ℕ)
    → IfSome t (λ t. IsSpentOn t fetched fetched compared compared)
idle None fetched compared = tt
idle (Some t) fetched compared = λ cost _. unspent cost fetched compared

pub idle_files : (told : Told) (named : FileNames) (fetched compared : ℕ)
    → IfSome told (λ files. IsSpentOn (files_task files named) fetched fetched compared compared)
idle_files None named fetched compared = tt
idle_files (Some files) named fetched compared = λ cost _. unspent cost fetched compared

-- Without comparisons for the indexes, those for the answers are all.
no_more_compares : (most : Option ℕ) (compared compared' : ℕ)
    → IfSome most (λ n. compared' ≤ compared + n)
    → IfSome (compares_of_both (Some 0) most) (λ n. compared' ≤ compared + n)
no_more_compares None compared compared' h = tt
no_more_compares (Some most) compared compared' h = omega (arith, h)

-- What was spent on the indexes and then on the answers was spent on the script.
pub answers_spent : (w : World) (s : State) (script : List ℕ) (fetched fetched' fetched'' compared compared' : ℕ)
    → fetched' ≤ fetched + index_fetches w.catalog s.rows
    → ((cost : Cost) → Costs w s script (statements script 0) cost → IsWithin cost fetched' fetched'' compared compared')
    → IsSpentOn (script_task w s script) fetched fetched'' compared compared'
answers_spent w s script fetched fetched' fetched'' compared compared' built answered = λ cost may.
    let within = answered may.0 may.1 in
    subst (λ (c : Cost). IsWithin c fetched fetched'' compared compared') (sym may.2) (record {
      fetches = omega (arith, built, within.fetches);
      compares = no_more_compares may.0.compares compared compared' within.compares;
    })

-- Memory ran out while the indexes were built.
pub indexes_spent : (w : World) (s : State) (script : List ℕ) (fetched fetched' compared : ℕ)
    → fetched' ≤ fetched + index_fetches w.catalog s.rows
    → IsSpentOn (script_task w s script) fetched fetched' compared compared
indexes_spent w s script fetched fetched' compared built =
    answers_spent w s script fetched fetched' fetched' compared compared built (λ cost _. unspent cost fetched' compared)

-- What was spent on the script of accepted files was spent on their task.
pub script_spent : (told : Told) (named : FileNames) (accepted : Accepted) (fetched fetched' compared compared' : ℕ)
    → IfSome told (λ files. files_outcome files named ≡ Ok accepted)
    → IsSpentOn (script_task (accepted_world accepted) (accepted_state accepted) accepted.script) fetched fetched' compared compared'
    → IfSome told (λ files. IsSpentOn (files_task files named) fetched fetched' compared compared')
script_spent None named accepted fetched fetched' compared compared' h s = tt
script_spent (Some files) named accepted fetched fetched' compared compared' h s =
    subst (λ (t : Task). IsSpentOn t fetched fetched' compared compared') (sym (task-is files named (Ok accepted) h)) s

-- A run that wrote so, and failed only where a device did, has done its task where none did.
complete_line : (text : List ℕ) (ends status : Status) (before after : Option (List ℕ)) (reads reads' writes writes' : ℕ)
    → LineWritten text ends status before after → ReadCause status reads reads' before after
    → WriteCause status writes writes' → IsComplete (one_line text ends) status reads reads' writes writes'
complete_line text ends Done before after r r' w w' h c d = λ _ _. inl (sym h.ends)
complete_line text ends SomeRefused before after r r' w w' h c d = λ _ _. inl (sym h.ends)
complete_line text ends Usage before after r r' w w' h c d = λ _ _. inl (sym h.ends)
complete_line text ends FilesRefused before after r r' w w' h c d = λ _ _. inl (sym h.ends)
complete_line text ends ReadFault before after r r' w w' h c d = λ no _. absurd (no c.0)
complete_line text ends WriteFault before after r r' w w' h c d = λ _ no. absurd (no d)
complete_line text ends NoMemory before after r r' w w' h c d = λ _ _. inr refl

complete_script : (world : World) (s : State) (script : List ℕ) (status : Status) (before after : Option (List ℕ)) (reads reads' writes writes' : ℕ)
    → ScriptWritten world s script status before after → ReadCause status reads reads' before after
    → WriteCause status writes writes' → IsComplete (script_task world s script) status reads reads' writes writes'
complete_script world s script Done before after r r' w w' h c d = λ _ _. inl (inl refl)
complete_script world s script SomeRefused before after r r' w w' h c d = λ _ _. inl (inr refl)
complete_script world s script Usage before after r r' w w' h c d = absurd h
complete_script world s script FilesRefused before after r r' w w' h c d = absurd h
complete_script world s script ReadFault before after r r' w w' h c d = λ no _. absurd (no c.0)
complete_script world s script WriteFault before after r r' w w' h c d = λ _ no. absurd (no d)
complete_script world s script NoMemory before after r r' w w' h c d = λ _ _. inr refl

complete : (t : Task) (status : Status) (before after : Option (List ℕ)) (reads reads' writes writes' : ℕ)
    → HasWritten t status before after → ReadCause status reads reads' before after
    → WriteCause status writes writes' → IsComplete t status reads reads' writes writes'
complete (one_line text ends) status before after r r' w w' h c d =
    complete_line text ends status before after r r' w w' h c d
complete (script_task world s script) status before after r r' w w' h c d =
    complete_script world s script status before after r r' w w' h c d

pub complete_told : (told : Option Task) (status : Status) (before after : Option (List ℕ)) (reads reads' writes writes' : ℕ)
    → IfSome told (λ t. HasWritten t status before after)
    → ReadCause status reads reads' before after → WriteCause status writes writes'
    → IfSome told (λ t. IsComplete t status reads reads' writes writes')
complete_told None status before after r r' w w' h c d = tt
complete_told (Some t) status before after r r' w w' h c d =
    complete t status before after r r' w w' h c d
