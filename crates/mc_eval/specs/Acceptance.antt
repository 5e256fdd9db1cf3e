-- Which rows a list of conjuncts accepts: MySQL 8.0 manual, 13.2.10, WHERE.
use Rattle.std.specs.Prelude.{◌≡◌, ⊤, Bool, true, false, List, map, Result, Ok, Err}
use Rattle.mc_eval.specs.Truths.{all_of, truth}
use Rattle.mc_eval.specs.Value.{value}
use Rattle.mc_eval.specs.Node.{Place}
use Rattle.mc_eval.specs.declared.fault.EvalFault.{EvalFault}
use Rattle.mc_eval.specs.declared.fault.EvalFault.TheVariants.{OutOfRange, NoMemory}
use Rattle.mc_eval.specs.declared.truth.Truth.{Truth}
use Rattle.mc_eval.specs.declared.truth.Truth.TheVariants.{No, Faulty, Unknown, Yes}
use Rattle.mc_typing.specs.declared.typed.TypedExpr.{TypedExpr}

-- NULL accepts no row.
abbrev pub firm : Truth → Truth
firm Unknown = No
firm it = it

-- The acceptance of a row: no where a conjunct is no or NULL, else a fault where one is a fault,
-- else yes.
abbrev pub acceptance : Place → List TypedExpr → Truth
acceptance p conjuncts = all_of (map (λ e. firm (truth (value p e))) conjuncts)

-- An answer tells whether the row is accepted, unless memory runs out.
abbrev pub TellsAcceptance : Truth → Result Bool EvalFault → Type 0
TellsAcceptance it (Ok true) = it ≡ Yes
TellsAcceptance it (Ok false) = it ≡ No
TellsAcceptance it (Err OutOfRange) = it ≡ Faulty
TellsAcceptance it (Err NoMemory) = ⊤
