-- What comes of values that may be kept may be kept, and is of the aggregate's type.
use Rattle.std.proofs.Common.{◌≡◌, ℕ, Bool, true, false, List, [], ◌∷◌, Some, cond}
use Rattle.std.proofs.Common.{subst}
use Rattle.std.proofs.Common.{pos, ℤ}
use Rattle.std.proofs.lemmas.List.Elements.{recursion_from_All}
use Rattle.std.specs.List.{AllByRecursion, find, list_all}
use Rattle.std.specs.Prelude.{All, IfOk, Result, Ok, Err, unwrap_or, if◌then◌else◌}
use Rattle.std.specs.Ordering.{flip_args}
use Rattle.std.specs.declared.cmp.Ordering.{Ordering}
use Rattle.mc_eval.specs.Outcomes.{IsKept}
use Rattle.mc_group.specs.Order.{value_order}
use Rattle.mc_group.specs.Sums.{has_64_bits, is_null, sum_of, total}
use Rattle.mc_group.specs.declared.kind.KeyKind.{KeyKind}
use Rattle.mc_group.specs.declared.sums.SumFault.TheVariants.{OutOfRange as OutOf}
use Rattle.mc_order.specs.Meaning.{Meaning}
use Rattle.mc_typing.specs.declared.typed.AggName.{AggName}
use Rattle.mc_typing.specs.declared.typed.AggName.TheVariants.{Count, Min, Max, Sum}
use Rattle.mc_values.specs.declared.value.Value.{Value}
use Rattle.mc_values.specs.declared.value.Value.TheVariants as value
use Rattle.mc_exec.specs.Aggregates.{combined, count_of, extreme, sum_given}
use Rattle.mc_exec.specs.Told.{Tells}
use Rattle.mc_exec.specs.declared.fault.ExecFault.{ExecFault}
use Rattle.mc_exec.specs.declared.fault.ExecFault.TheVariants.{OutOfRange, NoMemory}

-- What holds of NULL, of numbers and of the values holds of what comes of them.
module _ (P : Value → Type 0) (null : P value.Null) where
  found_is : (p : Value → Bool) (values : List Value) → AllByRecursion P values
      → P (unwrap_or (find p values) value.Null)
  found_is p [] h = null
  found_is p (v ∷ values) h = elim (p v) as (λ b.
      P (unwrap_or (cond b (Some v) (find p values)) value.Null))
      [ true ↦ h.0 | false ↦ found_is p values h.1 ]

  pub extreme_is : (order : Value → Value → Ordering) (values : List Value)
      → AllByRecursion P values
      → P (extreme order values)
  extreme_is order values h = found_is _ values h

  sum_in : (a b : Bool) (values : List Value) (it : Value) → ((n : ℤ) → P (value.Int n))
      → sum_given (if a then Ok value.Null else if b then Ok (value.Int
      (total values)) else Err OutOf)
      ≡ Some it → P it
  sum_in true b values it n e = let same : value.Null ≡ it = cc in subst P same null
  sum_in false true values it n e =
      let same : value.Int (total values) ≡ it = cc in subst P same (n (total values))
  sum_in false false values it n e = absurd (cc)

  pub sum_is : (values : List Value) (it : Value) → ((n : ℤ) → P (value.Int n))
      → sum_given (sum_of values) ≡ Some it → P it
  unfolding sum_of
  sum_is values it n e =
      sum_in (list_all is_null values) (has_64_bits (total values)) values it n e

pub null_kept : IsKept value.Null
null_kept = record { text = tt; short = tt }

pub number_kept : (n : ℤ) → IsKept (value.Int n)
number_kept n = record { text = tt; short = tt }

kept_of : (meaning : ℕ → Meaning) (name : AggName) (distinct : Bool) (of : KeyKind)
    (values : List Value) → AllByRecursion IsKept values → (it : Value)
    → combined meaning name distinct of values ≡ Some it → IsKept it
kept_of meaning Count distinct of values h it e =
    let same : value.Int (pos (count_of meaning of distinct values)) ≡ it = cc in
    subst IsKept same (number_kept (pos (count_of meaning of distinct values)))
kept_of meaning Min distinct of values h it e =
    let same : extreme (value_order meaning of) values ≡ it = cc in
    subst IsKept same (extreme_is IsKept null_kept (value_order meaning of) values h)
kept_of meaning Max distinct of values h it e =
    let same : extreme (flip_args (value_order meaning of)) values ≡ it = cc in
    subst IsKept same (extreme_is IsKept null_kept (flip_args (value_order meaning of)) values h)
kept_of meaning Sum distinct of values h it e =
    sum_is IsKept null_kept values it number_kept e

pub combined_kept : (meaning : ℕ → Meaning) (name : AggName) (distinct : Bool) (of : KeyKind)
    (values : List Value) → All IsKept values → (result : Result Value ExecFault)
    → Tells (combined meaning name distinct of values) result → IfOk result IsKept
combined_kept meaning name distinct of values h (Ok it) t =
    kept_of meaning name distinct of values (recursion_from_All IsKept values h) it t
combined_kept meaning name distinct of values h (Err OutOfRange) t = tt
combined_kept meaning name distinct of values h (Err NoMemory) t = tt

-- What is told of a value that may be kept.
pub told_kept : (wanted : Value) (result : Result Value ExecFault) → IsKept wanted
    → Tells (Some wanted) result → IfOk result IsKept
told_kept wanted (Ok it) k t = let same : wanted ≡ it = cc in subst IsKept same k
told_kept wanted (Err OutOfRange) k t = tt
told_kept wanted (Err NoMemory) k t = tt
