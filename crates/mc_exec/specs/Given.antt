-- The values of expressions in rows.
use Rattle.std.specs.Prelude.{ℕ, List, [], ◌∷◌, Option, Some, None, option_and_then, option_map}
use Rattle.mc_order.specs.Meaning.{Meaning}
use Rattle.mc_typing.specs.declared.typed.TypedExpr.{TypedExpr}
use Rattle.mc_typing.specs.declared.typed.TypedOrder.{TypedOrder}
use Rattle.mc_values.specs.declared.value.Value.{Value}
use Rattle.mc_eval.specs.Node.{place}
use Rattle.mc_eval.specs.Outcomes.{Outcome}
use Rattle.mc_eval.specs.Outcomes.Outcome.{fault, gives}
use Rattle.mc_eval.specs.Value.{value}

-- What all members give, in order; none where one gives nothing.
unfoldable pub all_of : {A B : Type 0} → (A → Option B) → List A → Option (List B)
all_of given [] = Some []
all_of given (x ∷ xs) =
    option_and_then (λ first. option_map (λ others. first ∷ others) (all_of given xs)) (given x)

-- The value that comes of an expression, if it isn't a fault.
abbrev pub given : Outcome → Option Value
given fault = None
given (gives it) = Some it

-- What an expression is evaluated in: a row, and the values of the aggregates over its group.
pub record Subject : Type 0 where
  pub row : List Value
  pub aggregates : List Value

-- A row without aggregates.
abbrev pub alone : List Value → Subject
alone row = record { row = row; aggregates = [] }

-- The value of an expression.
abbrev pub value_in : (ℕ → Meaning) → Subject → TypedExpr → Option Value
value_in meaning subject e = given (value (place subject.row subject.aggregates meaning) e)

-- The values of expressions; none where one is a fault.
abbrev pub values_in : (ℕ → Meaning) → List TypedExpr → Subject → Option (List Value)
values_in meaning exprs subject = all_of (value_in meaning subject) exprs

-- Their values in each of these; none where one is a fault.
abbrev pub values_of : (ℕ → Meaning) → List TypedExpr → List Subject → Option (List (List Value))
values_of meaning exprs subjects = all_of (values_in meaning exprs) subjects

-- The values of keys, and in each of these; none where one is a fault.
abbrev pub keys_in : (ℕ → Meaning) → List TypedOrder → Subject → Option (List Value)
keys_in meaning orders subject = all_of (λ key. value_in meaning subject key.expr) orders

abbrev pub keys_of : (ℕ → Meaning) → List TypedOrder → List Subject → Option (List (List Value))
keys_of meaning orders subjects = all_of (keys_in meaning orders) subjects
