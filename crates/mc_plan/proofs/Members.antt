-- Constants of a condition, and IN over several.
use Rattle.std.proofs.Common.{◌≡◌, ℕ, suc, List, [], ◌∷◌, Some, None, map, refl}
use Rattle.std.proofs.Common.{ap, ◌∙◌, arith, subst}
use Rattle.std.proofs.lemmas.Option.{option_and_then_some}
use Rattle.std.specs.Prelude.{Option, option_map}
use Rattle.std.specs.List.{AllByRecursion, AllZip, Contains}
use Rattle.mc_ast.specs.declared.operators.CmpOp.TheVariants as op
use Rattle.mc_charset.specs.declared.charset.Charset.{Charset}
use Rattle.mc_charset.specs.declared.collation_id.CollId.{CollId}
use Rattle.mc_order.specs.Meaning.{Meaning}
use Rattle.mc_range.specs.declared.condition.Cell.{Cell}
use Rattle.mc_range.specs.declared.condition.Cond.TheVariants as cond
use Rattle.mc_typing.specs.declared.typed.TypedExpr.{TypedExpr}
use Rattle.mc_values.specs.declared.value.Value.{Value}
use Rattle.mc_values.specs.declared.value.Value.TheVariants as value
use Rattle.mc_eval.specs.Comparisons.{compared}
use Rattle.mc_eval.specs.Node.{Place, outcomes}
use Rattle.mc_eval.specs.Outcomes.{all_given}
use Rattle.mc_eval.specs.Outcomes.Outcome.{gives}
use Rattle.mc_eval.specs.Value.{value as value_of, valued}
use Rattle.mc_plan.specs.Constants.{cell, cell_in, cells, constant}
use Rattle.mc_plan.specs.Rejects.{IsMetBy, IsOfSet}
use Rattle.mc_plan.proofs.Compared.{Laws, left}
use Rattle.mc_plan.proofs.Truths.{Rejects}
use Rattle.mc_plan.proofs.Values.{constant_is}

-- The value of an operand whose constant is this one.
pub record IsCell (p : Place) (set : Charset) (e : TypedExpr) (c : Cell) : Type 0 where
  pub held : Value
  pub outcome : value_of p e ≡ gives held
  pub same : cell_in set held ≡ Some c

pub cell_is : (p : Place) (set : Charset) (e : TypedExpr) (c : Cell) → cell set e ≡ Some c
    → IsCell p set e c
cell_is p set e c h = option_and_then_some (cell_in set) (constant e) c h
    (λ v is same. record { held = v; outcome = constant_is p e v is; same = same })

-- The first of several constants, and the others.
record AreCells (set : Charset) (x : TypedExpr) (xs : List TypedExpr) (cs : List Cell)
    : Type 0 where
  one : Cell
  others : List Cell
  first : cell set x ≡ Some one
  rest : cells set xs ≡ Some others
  both : one ∷ others ≡ cs

pub map_some : {A B : Type 0} (f : A → B) (o : Option A) (y : B) → option_map f o ≡ Some y
    → (x : A) × (o ≡ Some x) × (f x ≡ y)
map_some f None y h = absurd (cc)
map_some f (Some x) y h = (x, refl, cc)

cells_are : (set : Charset) (x : TypedExpr) (xs : List TypedExpr) (cs : List Cell)
    → cells set (x ∷ xs) ≡ Some cs → AreCells set x xs cs
unfolding cells
cells_are set x xs cs h = option_and_then_some
    (λ one. option_map (λ others. one ∷ others) (cells set xs)) (cell set x) cs h
    (λ one first more. let rest = map_some (λ others. one ∷ others) (cells set xs) cs more in
    record { one = one; others = rest.0; first = first; rest = rest.1; both = rest.2 })

-- The values of operands whose constants are these.
pub record AreGiven (p : Place) (set : Charset) (xs : List TypedExpr) (cs : List Cell)
    : Type 0 where
  pub values : List Value
  pub given : all_given (outcomes (map (valued p) xs)) ≡ Some values
  pub each : AllZip (λ v c. cell_in set v ≡ Some c) values cs

no_cells : (set : Charset) (cs : List Cell) → cells set [] ≡ Some cs → [] ≡ cs
unfolding cells
no_cells set cs h = cc

given_one : (p : Place) (set : Charset) (x : TypedExpr) (xs : List TypedExpr) (c : Cell)
    (cs : List Cell) → IsCell p set x c → AreGiven p set xs cs → AreGiven p set (x ∷ xs) (c ∷ cs)
given_one p set x xs c cs one rest = record {
  values = one.held ∷ rest.values;
  given = ap (λ o. all_given (o ∷ outcomes (map (valued p) xs))) one.outcome
      ∙ ap (option_map (λ values. one.held ∷ values)) rest.given;
  each = (one.same, rest.each);
}

pub cells_given : (p : Place) (set : Charset) (xs : List TypedExpr) (cs : List Cell)
    → cells set xs ≡ Some cs → AreGiven p set xs cs
cells_given p set [] cs h = subst (AreGiven p set []) (no_cells set cs h)
    (record { values = []; given = refl; each = tt })
cells_given p set (x ∷ xs) cs h =
    let are = cells_are set x xs cs h in
    subst (AreGiven p set (x ∷ xs)) are.both (given_one p set x xs are.one are.others
    (cell_is p set x are.one are.first) (cells_given p set xs are.others are.rest))

-- The value equals none of the constants.
pub equal_none : (laws : Laws) (meaning : ℕ → Meaning) (coll : CollId) (x : Value)
    (vs : List Value) (cs : List Cell) → IsOfSet (meaning coll.0).charset x
    → AllZip (λ v c. cell_in (meaning coll.0).charset v ≡ Some c) vs cs
    → ((c : Cell) → Contains cs c → IsMetBy (meaning coll.0) (cond.Eq c) x → ⊥)
    → AllByRecursion Rejects (map (compared meaning (Some coll) op.Eq x) vs)
equal_none laws meaning coll x [] cs h z n = tt
equal_none laws meaning coll x (v ∷ vs) [] h z n = absurd z
equal_none laws meaning coll x (v ∷ vs) (c ∷ cs) h z n = (
  left laws meaning coll op.Eq x v c (cond.Eq c) h z.0 refl (n c (0, omega arith, refl)),
  equal_none laws meaning coll x vs cs h z.1
      (λ d k. n d (suc k.0, omega (arith, k.1), k.2)),
)

-- Met by one of the constants is met by IN.
pub met_in : (m : Meaning) (x : Value) (cs : List Cell) (c : Cell) → Contains cs c
    → IsMetBy m (cond.Eq c) x → IsMetBy m (cond.In cs) x
met_in m value.Null cs c k h = absurd h
met_in m (value.Int number) cs c k h = absurd h
met_in m (value.Str set text) cs c k h = (c, k, h)
