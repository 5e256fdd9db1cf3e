-- The value of one node over those of its operands: MySQL 8.0 manual, 12.
use Rattle.std.specs.Prelude.{ℕ, List, [], ◌∷◌, map, Option, slice_get}
use Rattle.std.specs.Option.{option_map_or}
use Rattle.mc_ast.specs.declared.operators.CmpOp.TheVariants.{Ge, Le}
use Rattle.mc_charset.specs.declared.collation_id.CollId.{CollId}
use Rattle.mc_order.specs.Meaning.{Meaning}
use Rattle.mc_typing.specs.declared.typed.Node.{Node-F}
use Rattle.mc_typing.specs.declared.typed.Ty.{Ty}
use Rattle.mc_values.specs.declared.value.Value.{Value}
use Rattle.mc_values.specs.declared.value.Value.TheVariants as value
use Rattle.mc_eval.specs.Arithmetic.{arithmetic, negative, on_numbers}
use Rattle.mc_eval.specs.Comparisons.{compared, is_among}
use Rattle.mc_eval.specs.Functions.{called, converted_to, number_text}
use Rattle.mc_eval.specs.Matches.{liked}
use Rattle.mc_eval.specs.Outcomes.{Outcome, of_all, of_one, of_two}
use Rattle.mc_eval.specs.Outcomes.Outcome.{gives}
use Rattle.mc_eval.specs.Texts.{is_null}
use Rattle.mc_eval.specs.Truths.{all_of, any_of, known, one_of, opposite, told, truth, turned}
use Rattle.mc_eval.specs.Weights.{weighed}
use Rattle.mc_eval.specs.declared.truth.Truth.{Truth}
use Rattle.mc_eval.specs.declared.truth.Truth.TheVariants.{Unknown}

-- An operand: its type, and what comes of it.
pub record Valued : Type 0 where
  pub ty : Ty
  pub outcome : Outcome

-- What an expression is evaluated in: the row, the values of aggregates, and what the collation of
-- a number means.
pub record Place : Type 0 where
  pub row : List Value
  pub aggregates : List Value
  pub meaning : ℕ → Meaning

abbrev pub place : List Value → List Value → (ℕ → Meaning) → Place
place row aggregates meaning =
    record { row = row; aggregates = aggregates; meaning = meaning }

-- The value at a place of a row.
abbrev pub at_place : List Value → ℕ → Outcome
at_place row place = gives (option_map_or (λ it. it) (slice_get row place) value.Null)

abbrev pub outcomes : List Valued → List Outcome
outcomes xs = map (λ x. x.outcome) xs

abbrev pub truths : List Valued → List Truth
truths xs = map (λ x. truth x.outcome) xs

-- An operation on two operands. No typed one has another number of them.
abbrev pub of_pair : (Value → Value → Outcome) → List Valued → Outcome
of_pair operation (x ∷ y ∷ []) = of_two operation x.outcome y.outcome
of_pair operation xs = gives value.Null

-- XOR of two operands.
abbrev pub xor : List Valued → Outcome
xor (x ∷ y ∷ []) = told (one_of (truth x.outcome) (truth y.outcome))
xor xs = gives value.Null

-- IN: the first operand among the others.
abbrev pub among : (ℕ → Meaning) → Option CollId → List Value → Truth
among meaning coll [] = Unknown
among meaning coll (it ∷ members) = is_among meaning coll it members

-- BETWEEN: `x >= low AND x <= high`.
abbrev pub within_ends : (ℕ → Meaning) → Option CollId → Outcome → Outcome → Outcome → Truth
within_ends meaning coll x low high = all_of
    (truth (of_two (λ a b. told (compared meaning coll Ge a b)) x low)
    ∷ truth (of_two (λ a b. told (compared meaning coll Le a b)) x high) ∷ [])

abbrev pub between : (ℕ → Meaning) → Option CollId → List Valued → Truth
between meaning coll (x ∷ low ∷ high ∷ []) =
    within_ends meaning coll x.outcome low.outcome high.outcome
between meaning coll xs = Unknown

-- What comes of a node of a type.
abbrev pub node_value : {X : Type 0} → Place → Node-F X Valued → Ty → Outcome
node_value p (Node-F.Const it) ty = gives it
node_value p (Node-F.Column place) ty = at_place p.row place
node_value p (Node-F.Aggregate name distinct x place) ty = at_place p.aggregates place
node_value p (Node-F.Collate x) ty = x.outcome
node_value p (Node-F.Compare op coll xs) ty =
    of_pair (λ a b. told (compared p.meaning coll op a b)) xs
node_value p (Node-F.Like coll xs escape negated) ty =
    of_pair (λ a b. told (turned negated (liked p.meaning coll escape a b))) xs
node_value p (Node-F.In coll xs negated) ty =
    of_all (λ values. told (turned negated (among p.meaning coll values))) (outcomes xs)
node_value p (Node-F.Between coll xs negated) ty =
    told (turned negated (between p.meaning coll xs))
node_value p (Node-F.IsNull x negated) ty =
    of_one (λ it. told (turned negated (known (is_null it)))) x.outcome
node_value p (Node-F.Not x) ty = told (opposite (truth x.outcome))
node_value p (Node-F.Neg x) ty = of_one negative x.outcome
node_value p (Node-F.And xs) ty = told (all_of (truths xs))
node_value p (Node-F.Or xs) ty = told (any_of (truths xs))
node_value p (Node-F.Xor xs) ty = xor xs
node_value p (Node-F.Arith op xs) ty = of_pair (on_numbers (arithmetic op)) xs
node_value p (Node-F.Call function uses xs) ty =
    of_all (λ values. gives (called p.meaning function uses ty values)) (outcomes xs)
node_value p (Node-F.NumberText set x) ty = of_one (λ it. gives (number_text set it)) x.outcome
node_value p (Node-F.Convert set x) ty = of_one (λ it. gives (converted_to set it)) x.outcome
node_value p (Node-F.WeightString cut x) ty =
    of_one (λ it. gives (weighed p.meaning cut x.ty it)) x.outcome
