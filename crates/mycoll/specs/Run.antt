-- What a run of some words is to do, what it has written when it ends, and why it may end early.
use Rattle.std.specs.Prelude.{◌≡◌, ◌⊎◌, ℕ, Bool, true, false, List, Option, Some, Result, Ok}
use Rattle.std.specs.Prelude.{Err, option_map, take, if◌then◌else◌, ⊤}
use Rattle.mc_base.specs.Faults.{Rose}
use Rattle.mc_base.specs.Sink.{appended}
use Rattle.mc_book.specs.Meanings.{meaning_at}
use Rattle.mc_token.specs.Statements.{statements}
use Rattle.mycoll.specs.declared.status.Status.{Status}
use Rattle.mycoll.specs.declared.status.Status.TheVariants.{Done, SomeRefused, Usage, FilesRefused}
use Rattle.mycoll.specs.declared.status.Status.TheVariants.{ReadFault, WriteFault, NoMemory}
use Rattle.mycoll.specs.declared.output.Stopped.{Stopped}
use Rattle.mycoll.specs.declared.output.Stopped.TheVariants.{Fault, NoMemory as OutOfMemory}
use Rattle.mycoll.specs.Answering.{AllWritten, FirstWritten, PartWritten}
use Rattle.mycoll.specs.Costs.{Cost, Costs, IsWithin, free, index_cost, together}
use Rattle.mycoll.specs.Outcome.{Accepted, files_outcome, refused_line}
use Rattle.mycoll.specs.Words.{FileNames, WordsForm, IsOfFiles, words_form, usage_line}
use Rattle.mycoll.specs.Words.WordsForm.{file_words, no_form}
use Rattle.mycoll.specs.World.{World, State, world_of}

-- What a run is to do: to write one line and end so, or to answer a script.
pub data Task : Type 0 where
  one_line : List ℕ → Status → Task
  script_task : World → State → List ℕ → Task

-- The world of what was accepted.
abbrev pub accepted_world : Accepted → World
accepted_world accepted = world_of accepted.catalog (meaning_at accepted.meanings)

-- The state in which its first statement is answered.
abbrev pub accepted_state : Accepted → State
accepted_state accepted = record {
  connection = accepted.catalog.connection;
  rows = accepted.rows;
}

-- A refused file gives one line, and an accepted script its answers.
unfoldable pub files_task : (List ℕ → Option (List ℕ)) → FileNames → Task
files_task files named = elim (files_outcome files named) [
  | Ok accepted ↦ script_task (accepted_world accepted) (accepted_state accepted) accepted.script
  | Err refusal ↦ one_line (refused_line refusal) FilesRefused
]

-- What is to be done for some words, over what is told of the files; words of no form need none.
unfoldable pub task : Option (List ℕ → Option (List ℕ)) → List (List ℕ) → Option Task
task told words = elim (words_form words) [
  | file_words named ↦ option_map (λ files. files_task files named) told
  | no_form ↦ Some (one_line usage_line Usage)
]

-- The line was written, and its status is this one.
pub record IsLineWritten (text : List ℕ) (wanted status : Status)
    (before after : Option (List ℕ)) : Type 0 where
  pub ends : wanted ≡ status
  pub written : after ≡ appended before text

-- What was written of one line by the end, which has this status: all of it; some first bytes after
-- a write fault; nothing after a read fault, or where memory ran out.
abbrev pub LineWritten : List ℕ → Status → Status → Option (List ℕ) → Option (List ℕ) → Type 0
LineWritten text ends ReadFault before after = after ≡ before
LineWritten text ends WriteFault before after = (n : ℕ) × (after ≡ appended before (take n text))
LineWritten text ends NoMemory before after = after ≡ before
LineWritten text ends Done before after = IsLineWritten text ends Done before after
LineWritten text ends SomeRefused before after = IsLineWritten text ends SomeRefused before after
LineWritten text ends Usage before after = IsLineWritten text ends Usage before after
LineWritten text ends FilesRefused before after = IsLineWritten text ends FilesRefused before after

-- What was written of a script's answers by the end, which has this status: all of them, none or
-- some of them refusals; nothing after a read fault; some first bytes of the answers to some first
-- statements after a write fault; the whole answers to some first statements where memory ran out.
abbrev pub ScriptWritten : World → State → List ℕ → Status → Option (List ℕ) → Option (List ℕ)
    → Type 0
ScriptWritten w s script Done before after = AllWritten w s script false before after
ScriptWritten w s script SomeRefused before after = AllWritten w s script true before after
ScriptWritten w s script Usage before after = ⊥
ScriptWritten w s script FilesRefused before after = ⊥
ScriptWritten w s script ReadFault before after = after ≡ before
ScriptWritten w s script WriteFault before after = PartWritten w s script before after
ScriptWritten w s script NoMemory before after = FirstWritten w s script before after

-- What was written of a task by the end, which has this status.
abbrev pub HasWritten : Task → Status → Option (List ℕ) → Option (List ℕ) → Type 0
HasWritten (one_line text ends) status before after = LineWritten text ends status before after
HasWritten (script_task w s script) status before after =
    ScriptWritten w s script status before after

-- The status is one of a task that was done.
abbrev pub IsDone : Task → Status → Type 0
IsDone (one_line text ends) status = status ≡ ends
IsDone (script_task w s script) status = (status ≡ Done) ⊎ (status ≡ SomeRefused)

-- What a task may cost: one line is free, and a script may cost what the indexes do and its
-- statements may.
abbrev pub MayCost : Task → Cost → Type 0
MayCost (one_line text ends) cost = cost ≡ free
MayCost (script_task w s script) cost = (answers : Cost)
    × Costs w s script (statements script 0) answers
    × (cost ≡ together (index_cost w s) answers)

-- No more was spent than a task may cost, whatever it ended with.
abbrev pub IsSpentOn : Task → (fetched fetched' compared compared' : ℕ) → Type 0
IsSpentOn t fetched fetched' compared compared' =
    (cost : Cost) → MayCost t cost → IsWithin cost fetched fetched' compared compared'

-- Where no device failed in the run, its task was done, or memory ran out.
abbrev pub IsComplete : Task → Status → (reads reads' writes writes' : ℕ) → Type 0
IsComplete t status reads reads' writes writes' =
    (Rose reads reads' → ⊥) → (Rose writes writes' → ⊥) → IsDone t status ⊎ (status ≡ NoMemory)

-- Reading failed only where the count of the files' faults rose, and then nothing was written.
abbrev pub ReadCause : Status → ℕ → ℕ → Option (List ℕ) → Option (List ℕ) → Type 0
ReadCause ReadFault faults faults' before after = Rose faults faults' × (after ≡ before)
ReadCause Done faults faults' before after = ⊤
ReadCause SomeRefused faults faults' before after = ⊤
ReadCause Usage faults faults' before after = ⊤
ReadCause FilesRefused faults faults' before after = ⊤
ReadCause WriteFault faults faults' before after = ⊤
ReadCause NoMemory faults faults' before after = ⊤

-- Writing failed only where the count of the sink's faults rose.
abbrev pub WriteCause : Status → ℕ → ℕ → Type 0
WriteCause WriteFault faults faults' = Rose faults faults'
WriteCause Done faults faults' = ⊤
WriteCause SomeRefused faults faults' = ⊤
WriteCause Usage faults faults' = ⊤
WriteCause FilesRefused faults faults' = ⊤
WriteCause ReadFault faults faults' = ⊤
WriteCause NoMemory faults faults' = ⊤

-- The usage line is for words of no form alone, and files are opened for words that name some.
abbrev pub FitsWords : WordsForm → Status → Type 0
FitsWords form Usage = form ≡ no_form
FitsWords form Done = IsOfFiles form
FitsWords form SomeRefused = IsOfFiles form
FitsWords form FilesRefused = IsOfFiles form
FitsWords form ReadFault = IsOfFiles form
FitsWords form WriteFault = ⊤
FitsWords form NoMemory = ⊤

-- How a run ends that answered a script so.
abbrev pub answered_status : Result Bool Stopped → Status
answered_status (Ok refused) = if refused then SomeRefused else Done
answered_status (Err Fault) = WriteFault
answered_status (Err OutOfMemory) = NoMemory

-- How a run ends that wrote one line so.
abbrev pub line_status : Status → Result (Unit {0}) Stopped → Status
line_status status (Ok _) = status
line_status status (Err Fault) = WriteFault
line_status status (Err OutOfMemory) = NoMemory
