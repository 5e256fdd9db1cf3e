-- The rows that a statement is over: MySQL 8.0 manual, 13.2.10, FROM.
use Rattle.std.specs.Prelude.{ℕ, List, [], ◌∷◌, Option, Some, None}
use Rattle.mc_gather.specs.Indexed.{rows_in}
use Rattle.mc_values.specs.declared.value.Value.{Value}

-- Of the rows of all tables those of its table, in their order; without a table one row that has no
-- values.
abbrev pub source : List (List (List Value)) → Option ℕ → List (List Value)
source rows (Some place) = rows_in rows place
source rows None = [] ∷ []
