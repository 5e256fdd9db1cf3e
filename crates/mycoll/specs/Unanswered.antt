-- Why a statement has no tree, by the refusal that is made for it.
use Rattle.std.specs.Prelude.{Result, Ok, Err}
use Rattle.mc_base.specs.declared.no_memory.NoMemory.{NoMemory as Lack}
use Rattle.mc_base.specs.declared.refusal.Refusal.{Refusal}
use Rattle.mycoll.specs.declared.unanswered.Unanswered.{Unanswered}
use Rattle.mycoll.specs.declared.unanswered.Unanswered.TheVariants.{Refused, NoMemory}

-- The reason that comes of a refusal, or of want of memory for it.
abbrev pub reason_of : Result Refusal Lack → Unanswered
reason_of (Ok refusal) = Refused refusal
reason_of (Err lack) = NoMemory
