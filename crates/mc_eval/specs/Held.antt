-- Values that are lent or were made, among the operands of a node.
use Rattle.std.specs.Prelude.{◌≡◌, ⊤, All, List, Some, None, Result, Ok, Err, IfOk, map}
use Rattle.mc_values.specs.declared.value.Value.{Value}
use Rattle.mc_eval.specs.declared.fault.EvalFault.{EvalFault}
use Rattle.mc_eval.specs.declared.fault.EvalFault.TheVariants.{OutOfRange, NoMemory}
use Rattle.mc_eval.specs.declared.held.Held.{Held}
use Rattle.mc_eval.specs.declared.held.Held.TheVariants.{Lent, Made}
use Rattle.mc_eval.specs.Outcomes.{Outcome, IsKept, all_given}
use Rattle.mc_eval.specs.Outcomes.Outcome.{fault, gives}

abbrev pub held_value : Held → Value
held_value (Lent it) = it.now
held_value (Made it) = it

-- An answer tells what comes of an operand, unless memory runs out.
abbrev pub TellsHeld : Outcome → Result Held EvalFault → Type 0
TellsHeld outcome (Ok held) = outcome ≡ gives (held_value held)
TellsHeld outcome (Err OutOfRange) = outcome ≡ fault
TellsHeld outcome (Err NoMemory) = ⊤

-- The value of the operand, if it has one, may be kept.
abbrev pub HoldsKept : Result Held EvalFault → Type 0
HoldsKept answer = IfOk answer (λ held. IsKept (held_value held))

abbrev pub held_values : List Held → List Value
held_values helds = map held_value helds

-- An answer tells the values of operands in order, unless memory runs out.
abbrev pub TellsAll : List Outcome → Result (List Held) EvalFault → Type 0
TellsAll outcomes (Ok helds) = all_given outcomes ≡ Some (held_values helds)
TellsAll outcomes (Err OutOfRange) = all_given outcomes ≡ None
TellsAll outcomes (Err NoMemory) = ⊤

-- The values of operands may be kept.
abbrev pub AreKept : List Held → Type 0
AreKept helds = All (λ held. IsKept (held_value held)) helds

-- The values of the operands, if they have them, may be.
abbrev pub HoldAllKept : Result (List Held) EvalFault → Type 0
HoldAllKept answer = IfOk answer AreKept
