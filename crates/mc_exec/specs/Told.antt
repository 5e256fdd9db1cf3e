-- What an answer tells of what is wanted.
use Rattle.std.specs.Prelude.{◌≡◌, ⊤, IsTrue, Option, Some, None, Result, Ok, Err}
use Rattle.std.specs.Option.{is_some}
use Rattle.mc_eval.specs.declared.fault.EvalFault.{EvalFault}
use Rattle.mc_eval.specs.declared.fault.EvalFault.TheVariants as eval
use Rattle.mc_exec.specs.declared.fault.ExecFault.{ExecFault}
use Rattle.mc_exec.specs.declared.fault.ExecFault.TheVariants.{OutOfRange, NoMemory}

-- A fault tells that what is wanted can't be had, unless memory ran out.
abbrev pub Fails : {A : Type 0} → Option A → ExecFault → Type 0
Fails wanted OutOfRange = wanted ≡ None
Fails wanted NoMemory = ⊤

-- An answer has what is wanted, or tells that it can't be had, unless memory ran out.
abbrev pub Tells : {A : Type 0} → Option A → Result A ExecFault → Type 0
Tells wanted (Ok it) = wanted ≡ Some it
Tells wanted (Err fault) = Fails wanted fault

-- The same of what the caller lent.
abbrev pub TellsOf : {A U : Type 0} → Option A → A → Result U ExecFault → Type 0
TellsOf wanted it (Ok done) = wanted ≡ Some it
TellsOf wanted it (Err fault) = Fails wanted fault

-- A fault of an expression is one of the statement.
abbrev pub fault_of : EvalFault → ExecFault
fault_of eval.OutOfRange = OutOfRange
fault_of eval.NoMemory = NoMemory

-- An answer tells whether what is wanted can be had, unless memory ran out.
abbrev pub Finds : {A U : Type 0} → Option A → Result U ExecFault → Type 0
Finds wanted (Ok done) = IsTrue (is_some wanted)
Finds wanted (Err fault) = Fails wanted fault
