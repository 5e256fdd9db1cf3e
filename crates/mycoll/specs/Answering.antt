-- What is written while a script is answered, and why it may stop.
use Rattle.std.specs.Prelude.{◌≡◌, ℕ, Bool, List, Option, Result, Ok, Err, take, ⊤}
use Rattle.mc_base.specs.Faults.{Rose}
use Rattle.mc_base.specs.Sink.{appended}
use Rattle.mycoll.specs.declared.output.Stopped.{Stopped}
use Rattle.mycoll.specs.declared.output.Stopped.TheVariants.{Fault, NoMemory}
use Rattle.mycoll.specs.declared.said.Said.{Said}
use Rattle.mycoll.specs.Answers.{AreAll, AreFirst, said_texts, some_refused}
use Rattle.mycoll.specs.World.{World, State}

-- The answers to all statements were written, and some are refusals if `refused` says so.
pub record AllWritten (w : World) (s : State) (script : List ℕ) (refused : Bool)
    (before after : Option (List ℕ)) : Type 0 where
  pub said : List Said
  pub all : AreAll w s script said
  pub told : refused ≡ some_refused said
  pub written : after ≡ appended before (said_texts said)

-- The answers to some first statements were written, whole.
pub record FirstWritten (w : World) (s : State) (script : List ℕ)
    (before after : Option (List ℕ)) : Type 0 where
  pub said : List Said
  pub first : AreFirst w s script said
  pub written : after ≡ appended before (said_texts said)

-- Some first bytes of the answers to some first statements were written.
pub record PartWritten (w : World) (s : State) (script : List ℕ)
    (before after : Option (List ℕ)) : Type 0 where
  pub said : List Said
  pub first : AreFirst w s script said
  pub bytes : ℕ
  pub written : after ≡ appended before (take bytes (said_texts said))

-- All answers were written, and Ok says whether some are refusals; or some first bytes of them,
-- where the sink failed; or some first ones whole, where memory ran out.
abbrev pub AnswersWritten : World → State → List ℕ → Result Bool Stopped → Option (List ℕ)
    → Option (List ℕ) → Type 0
AnswersWritten w s script (Ok refused) before after = AllWritten w s script refused before after
AnswersWritten w s script (Err Fault) before after = PartWritten w s script before after
AnswersWritten w s script (Err NoMemory) before after = FirstWritten w s script before after

-- Bytes were written whole; or some first ones, where the sink failed; or none, where memory ran
-- out.
abbrev pub Written : {T : Type 0} → List ℕ → Result T Stopped → Option (List ℕ)
    → Option (List ℕ) → Type 0
Written bytes (Ok _) before after = after ≡ appended before bytes
Written bytes (Err Fault) before after = (n : ℕ) × (after ≡ appended before (take n bytes))
Written bytes (Err NoMemory) before after = after ≡ before

-- Writing stops for a fault only where the sink's count rose.
abbrev pub StopCause : {T : Type 0} → Result T Stopped → ℕ → ℕ → Type 0
StopCause (Ok _) before after = ⊤
StopCause (Err Fault) before after = Rose before after
StopCause (Err NoMemory) before after = ⊤
