-- What stands for a group: its first row, with the aggregates over the group. MySQL 8.0 manual,
-- 12.20.3.
use Rattle.std.specs.Prelude.{ℕ, Bool, true, false, List, [], ◌∷◌, map, slice_index_or}
use Rattle.std.specs.Prelude.{Option, Some, option_and_then, option_map}
use Rattle.mc_catalog.specs.declared.catalog.Catalog.{Catalog}
use Rattle.mc_order.specs.Meaning.{Meaning}
use Rattle.mc_typing.specs.SoundStatements.{columns_at}
use Rattle.mc_typing.specs.declared.typed.Typed.{Typed}
use Rattle.mc_values.specs.declared.value.Value.{Value}
use Rattle.mc_values.specs.declared.value.Value.TheVariants as value
use Rattle.mc_exec.specs.Aggregates.{aggregates_in, aggregates_over}
use Rattle.mc_exec.specs.Given.{Subject, all_of, alone, keys_in, values_in}
use Rattle.mc_exec.specs.Grouped.{groups_by}

-- What is evaluated in a subject: the values of the items, and those of the keys.
pub record Line : Type 0 where
  pub items : List Value
  pub keys : List Value

-- None where one is a fault.
abbrev pub line_in : (ℕ → Meaning) → Typed → Subject → Option Line
line_in meaning q subject = option_and_then
    (λ items. option_map (λ keys. record { items = items; keys = keys })
    (keys_in meaning q.orders subject)) (values_in meaning q.items subject)

-- A row of NULLs, one for each column of the statement's table.
abbrev pub null_row : Catalog → Option ℕ → List Value
null_row c table = map (λ column. value.Null) (columns_at c table)

-- The rows in which a group is evaluated: its own, or, where it has none, one of NULLs.
abbrev pub or_one : List Value → List (List Value) → List (List Value)
or_one nulls [] = nulls ∷ []
or_one nulls rows = rows

-- The aggregates over a group, if each of its rows can be evaluated with them. None where a value
-- is a fault.
abbrev pub evaluated : (ℕ → Meaning) → Typed → List Value → List (List Value) → List Value
    → Option (List Value)
evaluated meaning q nulls rows aggregates = option_map (λ lines. aggregates)
    (all_of (λ row. line_in meaning q (record { row = row; aggregates = aggregates }))
    (or_one nulls rows))

abbrev pub group_values : (ℕ → Meaning) → Typed → List Value → List (List Value)
    → Option (List Value)
group_values meaning q nulls rows = option_and_then (evaluated meaning q nulls rows)
    (aggregates_over meaning (aggregates_in q) rows)

-- What stands for a group: its first row.
abbrev pub standing : List Value → List (List Value) → List Value → Subject
standing nulls rows aggregates =
    record { row = slice_index_or rows 0 nulls; aggregates = aggregates }

abbrev pub shown_of : (ℕ → Meaning) → Typed → List Value → List (List Value) → Option Subject
shown_of meaning q nulls rows =
    option_map (standing nulls rows) (group_values meaning q nulls rows)

-- What stands for each group. A statement that isn't grouped shows each row.
abbrev pub subjects_of : Catalog → (ℕ → Meaning) → Typed → Bool → List (List Value)
    → Option (List Subject)
subjects_of c meaning q true rows = option_and_then
    (all_of (shown_of meaning q (null_row c q.table))) (groups_by meaning q.groups rows)
subjects_of c meaning q false rows = Some (map alone rows)
