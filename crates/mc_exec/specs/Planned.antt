-- What the plan of a statement costs: MySQL 8.0 manual, 8.2.1.2.
use Rattle.std.specs.Prelude.{ℕ, List}
use Rattle.mc_catalog.specs.declared.catalog.Catalog.{Catalog}
use Rattle.mc_gather.specs.PlanLaws.{seeks}
use Rattle.mc_order.specs.Meaning.{Meaning}
use Rattle.mc_plan.specs.Entries.{entries}
use Rattle.mc_plan.specs.Plans.{chosen}
use Rattle.mc_typing.specs.declared.typed.Typed.{Typed}
use Rattle.mc_values.specs.declared.value.Value.{Value}
use Rattle.mc_exec.specs.Source.{source}

-- How many rows of its table the plan of a statement reads.
abbrev pub plan_entries : Catalog → (ℕ → Meaning) → List (List (List Value)) → Typed → ℕ
plan_entries c meaning rows q =
    entries c meaning q.table (chosen c meaning q) (source rows q.table)

-- How many comparisons it makes at most to seek the ends of its intervals.
abbrev pub plan_seeks : Catalog → (ℕ → Meaning) → List (List (List Value)) → Typed → ℕ
plan_seeks c meaning rows q = seeks c q.table (chosen c meaning q) (source rows q.table)
