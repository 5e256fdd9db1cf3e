-- A sink in memory: what was written, and its plan of faults.
use Rattle.std.specs.Prelude.{◌≡◌, List, ℕ, Bool, true, false}
use Rattle.mc_base.specs.FaultPlan.{Plan}
use Rattle.mc_base.specs.declared.outside.PutAnswer.{PutAnswer}
use Rattle.mc_base.specs.declared.outside.PutAnswer.TheVariants.{Done, Failed, NoMemory}

-- what a sink in memory holds
pub record SinkState : Type 0 where
  pub written : List ℕ
  pub plan : Plan

-- A call fails exactly where it is planned, and then appends nothing.
abbrev pub PutsAsPlanned : PutAnswer → Bool → List ℕ → List ℕ → Type 0
PutsAsPlanned Failed planned before after = (planned ≡ true) × (after ≡ before)
PutsAsPlanned Done planned before after = planned ≡ false
PutsAsPlanned NoMemory planned before after = planned ≡ false
