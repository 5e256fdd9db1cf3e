-- What EXPLAIN answers: the plan of the statement. MySQL 8.0 manual, 13.8.2 and 8.8.1.
use Rattle.std.specs.Prelude.{ℕ, suc, pos, List, [], ◌∷◌, ◌++◌, codes, length, slice_get}
use Rattle.std.specs.Option.{option_map_or}
use Rattle.mc_catalog.specs.declared.catalog.Catalog.{Catalog}
use Rattle.mc_catalog.specs.declared.catalog.IndexDecl.{IndexDecl}
use Rattle.mc_charset.specs.declared.charset.Charset.TheVariants.{Ascii}
use Rattle.mc_order.specs.Meaning.{Meaning}
use Rattle.mc_plan.specs.Plans.{chosen, indexes_at}
use Rattle.mc_plan.specs.declared.plan.Plan.{Plan}
use Rattle.mc_plan.specs.declared.plan.Plan.TheVariants.{Scan, ByIndex}
use Rattle.mc_typing.specs.declared.typed.Typed.{Typed}
use Rattle.mc_values.specs.declared.answer.Answer.{Answer}
use Rattle.mc_values.specs.declared.value.Value.{Value}
use Rattle.mc_values.specs.declared.value.Value.TheVariants.{Null, Int, Str}
use Rattle.mc_exec.specs.Planned.{plan_entries}

-- The headers of the answer.
abbrev pub plan_header : List (List ℕ)
plan_header = codes "key" ∷ codes "conjunct" ∷ codes "intervals" ∷ codes "entries" ∷ []

-- The name of the index at a place.
abbrev pub name_at : List IndexDecl → ℕ → Value
name_at indexes index = option_map_or (λ it. Str Ascii it.name) (slice_get indexes index) Null

-- The name of the plan's index, the number of its conjunct, counted from 1, and how many intervals
-- it has; NULLs for a scan.
abbrev pub plan_cells : List IndexDecl → Plan → List Value
plan_cells indexes Scan = Null ∷ Null ∷ Null ∷ []
plan_cells indexes (ByIndex index conjunct intervals) = name_at indexes index
    ∷ Int (pos (suc conjunct)) ∷ Int (pos (length intervals)) ∷ []

-- The plan of a statement as a row, with how many rows it reads behind it.
abbrev pub plan_row : List IndexDecl → Plan → ℕ → List Value
plan_row indexes plan count = plan_cells indexes plan ++ Int (pos count) ∷ []

-- The answer: the one row of the statement's plan.
abbrev pub explained : Catalog → (ℕ → Meaning) → List (List (List Value)) → Typed → Answer
explained c meaning rows q = record {
  header = plan_header;
  rows = plan_row (indexes_at c q.table) (chosen c meaning q) (plan_entries c meaning rows q) ∷ [];
}
