-- The aggregate: what it comes from.
use Rattle.std.proofs.Common.{◌≡◌, ◌≢◌, ℕ, ◌≤◌, ◌⊎◌, Bool, true, cond, List, [], ◌∷◌}
use Rattle.std.proofs.Common.{Option, Some, None, length, get_or, drop, refl, sym, ap, ◌∙◌, arith}
use Rattle.std.proofs.Common.{inl, inr}
use Rattle.std.specs.List.{All, Contains, list_any}
use Rattle.std.specs.Option.{option_map, option_or, option_and_then}
use Rattle.std.proofs.lemmas.Bool.{cases_Bool}
use Rattle.std.proofs.lemmas.List.{at_drop_all}
use Rattle.std.proofs.lemmas.List.Elements.{All-filter}
use Rattle.mc_charset.specs.declared.charset.Charset.TheVariants.{Binary}
use Rattle.mc_convert.specs.declared.repertoire.Repertoire.TheVariants.{Ascii}
use Rattle.mc_coerce.specs.declared.operand.Operand.{Operand}
use Rattle.mc_coerce.specs.declared.operand.Purpose.{Purpose}
use Rattle.mc_coerce.specs.declared.operand.Purpose.TheVariants.{Compare, Text}
use Rattle.mc_coerce.specs.declared.operand.Agg.TheVariants.{Uses}
use Rattle.mc_coerce.specs.declared.demand.Demand.{Demand}
use Rattle.mc_coerce.specs.declared.demand.Demand.TheVariants.{Beat, Share}
use Rattle.mc_coerce.specs.Levels.{ignorable}
use Rattle.mc_coerce.specs.Operand.{IsOperand, AgreeOnSet, AreOperands}
use Rattle.mc_coerce.specs.Demand.{decides, result_of, result_by}
use Rattle.mc_coerce.specs.Aggregate.{takes_part, counted, of_bin, is_refused}
use Rattle.mc_coerce.specs.Aggregate.{result_for, uses_or_mix, aggregate_counted, aggregate}
use Rattle.mc_coerce.proofs.Election.{Candidate, elect_from, elect_from-end, elected}
use Rattle.mc_coerce.proofs.Members.{Found, find-any, find-none}

-- Those that take part are operands.
pub AreOperands-counted : (list : List Operand) → AreOperands list → AreOperands (counted list)
AreOperands-counted list ops = record {
  each = All-filter takes_part IsOperand list ops.each;
  one_set = All-filter takes_part (λ (a : Operand). All (AgreeOnSet a) (counted list)) list
      (λ k d l. All-filter takes_part (AgreeOnSet (get_or list k d)) list (ops.one_set k d l));
}

-- At the end of the list, a function of the operands that are left.
none_left : {Y : Type 0} (F : List Operand → Y) (xs : List Operand) (i : ℕ) → length xs ≤ i
    → F (counted (drop i xs)) ≡ F []
none_left F xs i h = at_drop_all (λ (ys : List Operand). F (counted ys)) xs i h

-- What the candidate says at the end of the list.
pub elected_at_end : (demand : Demand) (list : List Operand) (candidate : Option Operand)
    (place : ℕ) (a : Operand) → AreOperands list → length list ≤ place
    → elect_from demand candidate (counted (drop place list))
    ≡ elect_from demand None (counted list)
    → candidate ≡ Some a → Candidate demand (counted list) a
elected_at_end demand list candidate place a ops h e is =
    elected demand (counted list) a (AreOperands-counted list ops)
    (sym e ∙ none_left (elect_from demand candidate) list place h
    ∙ elect_from-end demand candidate ∙ is)

-- By the number of those that take part

none_counted : (operands : List Operand) (purpose : Purpose) → length operands ≡ 0
    → aggregate_counted operands purpose ≡ Uses (of_bin Binary ignorable Ascii)
none_counted [] purpose h = refl
none_counted (x ∷ xs) purpose h = absurd (omega arith)

some_counted : (operands : List Operand) (purpose : Purpose) → length operands ≢ 0
    → aggregate_counted operands purpose ≡ uses_or_mix (result_for purpose operands)
some_counted [] purpose h = absurd (h refl)
some_counted (x ∷ xs) purpose h = refl

pub aggregate-none : (list : List Operand) (purpose : Purpose) → length (counted list) ≡ 0
    → aggregate list purpose ≡ Uses (of_bin Binary ignorable Ascii)
unfolding aggregate
aggregate-none list purpose h = none_counted (counted list) purpose h

pub aggregate-some : (list : List Operand) (purpose : Purpose) → length (counted list) ≢ 0
    → aggregate list purpose ≡ uses_or_mix (result_for purpose (counted list))
unfolding aggregate
aggregate-some list purpose h = some_counted (counted list) purpose h

-- Where a result comes from

-- The result is that of an operand that decides.
pub record ComesFrom (demand : Demand) (operands : List Operand) (result a : Operand) : Type 0 where
  pub within : Contains operands a
  pub decides_all : decides demand operands a ≡ true
  pub is : result ≡ result_of demand operands a

abbrev pub HasDecider : List Operand → Operand → Type 0
HasDecider operands result =
    (demand : Demand) × (a : Operand) × ComesFrom demand operands result a

some_is : (a b : Operand) → Some a ≡ Some b → b ≡ a
some_is a b h = cc

none_is_some : (a : Operand) → None ≡ Some a → ⊥
none_is_some a h = cc

result_by-from : (demand : Demand) (operands : List Operand) (result : Operand)
    → result_by demand operands ≡ Some result → HasDecider operands result
result_by-from demand operands result h =
    elim (cases_Bool (list_any (decides demand operands) operands)) [
      | inl t ↦
          let r : (y : Operand) × Found (decides demand operands) operands y =
          find-any (decides demand operands) operands t in (
            demand,
            r.0,
            record {
              within = r.1.within;
              decides_all = r.1.passes;
              is = some_is (result_of demand operands r.0) result
                  (sym (ap (option_map (result_of demand operands)) r.1.found) ∙ h);
            },
          )
      | inr f ↦ absurd (none_is_some result
          (sym (ap (option_map (result_of demand operands))
          (find-none (decides demand operands) operands f)) ∙ h))
    ]

kept : (test : Operand → Bool) (o : Option Operand) (result : Operand)
    → option_and_then (λ (x : Operand). cond (test x) None (Some x)) o ≡ Some result
    → o ≡ Some result
kept test None result h = h
kept test (Some x) result h =
    elim (cases_Bool (test x)) [
      | inl t ↦ absurd (none_is_some result (sym (ap (λ b. cond b None (Some x)) t) ∙ h))
      | inr f ↦ sym (ap (λ b. cond b None (Some x)) f) ∙ h
    ]

either : (o p : Option Operand) (result : Operand) → option_or o p ≡ Some result
    → (o ≡ Some result) ⊎ (p ≡ Some result)
either None p result h = inr h
either (Some x) p result h = inl h

result_for-from : (purpose : Purpose) (operands : List Operand) (result : Operand)
    → result_for purpose operands ≡ Some result → HasDecider operands result
result_for-from Compare operands result h =
    result_by-from Beat operands result
    (kept (is_refused operands) (result_by Beat operands) result h)
result_for-from Text operands result h =
    elim (either (result_by Beat operands) (result_by Share operands) result h) [
      | inl k ↦ result_by-from Beat operands result k
      | inr k ↦ result_by-from Share operands result k
    ]

used : (o : Option Operand) (result : Operand) → uses_or_mix o ≡ Uses result → o ≡ Some result
used None result h = absurd (cc)
used (Some x) result h = cc

counted-from : (operands : List Operand) (purpose : Purpose) (result : Operand)
    → aggregate_counted operands purpose ≡ Uses result
    → ((operands ≡ []) × (result ≡ of_bin Binary ignorable Ascii)) ⊎ HasDecider operands result
counted-from [] purpose result h = inl (refl, cc)
counted-from (x ∷ xs) purpose result h =
    inr (result_for-from purpose (x ∷ xs) result (used (result_for purpose (x ∷ xs)) result h))

pub aggregate-from : (list : List Operand) (purpose : Purpose) (result : Operand)
    → aggregate list purpose ≡ Uses result
    → ((counted list ≡ []) × (result ≡ of_bin Binary ignorable Ascii))
    ⊎ HasDecider (counted list) result
unfolding aggregate
aggregate-from list purpose result h = counted-from (counted list) purpose result h
