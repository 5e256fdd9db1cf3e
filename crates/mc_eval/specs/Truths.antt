-- Truth values with NULL and faults: MySQL 8.0 manual, 12.4.3, Logical Operators.
use Rattle.std.specs.Prelude.{Bool, true, false, pos, List, [], ◌∷◌, map}
use Rattle.std.specs.Prelude.{if◌then◌else◌}
use Rattle.std.specs.Ordering.{int_eq}
use Rattle.mc_values.specs.declared.value.Value.{Value}
use Rattle.mc_values.specs.declared.value.Value.TheVariants as value
use Rattle.mc_eval.specs.Outcomes.{Outcome}
use Rattle.mc_eval.specs.Outcomes.Outcome.{fault, gives}
use Rattle.mc_eval.specs.declared.truth.Truth.{Truth}
use Rattle.mc_eval.specs.declared.truth.Truth.TheVariants.{No, Faulty, Unknown, Yes}

-- The lesser of two in the chain no, fault, NULL, yes.
abbrev pub least : Truth → Truth → Truth
least No other = No
least Faulty No = No
least Faulty other = Faulty
least Unknown No = No
least Unknown Faulty = Faulty
least Unknown other = Unknown
least Yes other = other

-- AND: no where a member is no, else a fault where one is a fault, else NULL where one is NULL.
abbrev pub all_of : List Truth → Truth
all_of [] = Yes
all_of (first ∷ others) = least first (all_of others)

-- NOT.
abbrev pub opposite : Truth → Truth
opposite No = Yes
opposite Faulty = Faulty
opposite Unknown = Unknown
opposite Yes = No

-- The truth value, or its opposite.
abbrev pub turned : Bool → Truth → Truth
turned true it = opposite it
turned false it = it

-- OR: yes where a member is yes, else a fault where one is a fault, else NULL where one is NULL.
abbrev pub any_of : List Truth → Truth
any_of members = opposite (all_of (map opposite members))

-- XOR: a fault where a side is a fault, else NULL where one is NULL.
abbrev pub one_of : Truth → Truth → Truth
one_of Faulty other = Faulty
one_of one Faulty = Faulty
one_of Unknown other = Unknown
one_of one Unknown = Unknown
one_of Yes No = Yes
one_of No Yes = Yes
one_of one other = No

-- The truth of a value: a number other than 0 is true. No condition is a text.
abbrev pub truth_of : Value → Truth
truth_of value.Null = Unknown
truth_of (value.Int number) = if int_eq number (pos 0) then No else Yes
truth_of (value.Str set text) = Unknown

-- The truth of what comes of a condition.
abbrev pub truth : Outcome → Truth
truth fault = Faulty
truth (gives it) = truth_of it

-- A truth value as what comes of an operation.
abbrev pub told : Truth → Outcome
told No = gives (value.Int (pos 0))
told Faulty = fault
told Unknown = gives value.Null
told Yes = gives (value.Int (pos 1))

-- Yes or no.
abbrev pub known : Bool → Truth
known true = Yes
known false = No
