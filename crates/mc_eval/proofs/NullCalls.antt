-- A call is NULL where a test says so, else what is applied.
use Rattle.std.proofs.Common.{◌≡◌, Bool, true, false, cond, IfOk, refl}
use Rattle.std.specs.Prelude.{Result}
use Rattle.mc_values.specs.declared.value.Value.{Value}
use Rattle.mc_values.specs.declared.value.Value.TheVariants.{Null}
use Rattle.mc_eval.specs.Outcomes.{IsValue}

pub null_call : (applied : Value) (test : Bool) → test ≡ true → IsValue (cond test Null applied) Null
null_call applied true e = (refl, record { text = tt; short = tt })
null_call applied false e = absurd (cc)

pub other_call : {E : Type 0} → (applied : Value) (test : Bool) (result : Result Value E) → test ≡ false → IfOk result (IsValue applied)
    → IfOk result (IsValue (cond test Null applied))
other_call applied true result e h = absurd (cc)
other_call applied false result e h = h
