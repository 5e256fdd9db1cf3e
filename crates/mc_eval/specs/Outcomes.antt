-- What comes of an expression in a row: a value, or a fault where a number is outside 64 bits.
use Rattle.std.specs.Prelude.{◌≡◌, ⊤, List, [], ◌∷◌, Option, Some, None}
use Rattle.std.specs.Prelude.{Result, Ok, Err, IfOk, option_map}
use Rattle.std.specs.Option.{option_map_or}
use Rattle.mc_values.specs.Values.{IsTextOfSet, IsWithinLimit}
use Rattle.mc_values.specs.declared.value.Value.{Value}
use Rattle.mc_eval.specs.declared.fault.EvalFault.{EvalFault}
use Rattle.mc_eval.specs.declared.fault.EvalFault.TheVariants.{OutOfRange, NoMemory}

pub data Outcome : Type 0 where
  fault : Outcome
  gives : Value → Outcome

-- A string is a text of its set, no longer than a string may be.
pub record IsKept (value : Value) : Type 0 where
  pub text : IsTextOfSet value
  pub short : IsWithinLimit value

-- An answer tells what comes of an expression, unless memory runs out.
abbrev pub Tells : Outcome → Result Value EvalFault → Type 0
Tells outcome (Ok value) = outcome ≡ gives value
Tells outcome (Err OutOfRange) = outcome ≡ fault
Tells outcome (Err NoMemory) = ⊤

-- The value that is answered, if one is, may be kept.
abbrev pub GivesKept : Result Value EvalFault → Type 0
GivesKept answer = IfOk answer IsKept

-- The value is the wanted one, and it may be kept.
abbrev pub IsValue : Value → Value → Type 0
IsValue wanted value = (value ≡ wanted) × IsKept value

-- What comes of an operation on one operand: a fault of the operand is one of the operation.
abbrev pub of_one : (Value → Outcome) → Outcome → Outcome
of_one operation fault = fault
of_one operation (gives value) = operation value

-- The same of two operands: a fault on a side is one of the operation.
abbrev pub of_two : (Value → Value → Outcome) → Outcome → Outcome → Outcome
of_two operation fault other = fault
of_two operation (gives value) other = of_one (operation value) other

-- The values of operands in order, if none is a fault.
abbrev pub all_given : List Outcome → Option (List Value)
all_given [] = Some []
all_given (fault ∷ others) = None
all_given (gives value ∷ others) = option_map (λ values. value ∷ values) (all_given others)

-- The same of operands in order.
abbrev pub of_all : (List Value → Outcome) → List Outcome → Outcome
of_all operation operands = option_map_or operation (all_given operands) fault
