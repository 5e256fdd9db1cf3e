-- What a script may cost: rows that are fetched, and comparisons of characters and of keys. Once,
-- before the first answer, the indexes cost the rows of each table times its indexes; then each
-- SELECT costs the rows that its plan reads, and EXPLAIN none. It is summed along the states that
-- the answers leave.
use Rattle.std.specs.Prelude.{◌≡◌, ℕ, ◌+◌, ◌≤◌, List, [], ◌∷◌, Option, Some, None, IfSome}
use Rattle.std.specs.Prelude.{Result, Ok, Err, if◌then◌else◌}
use Rattle.mc_ast.specs.declared.statement.Statement.{Statement}
use Rattle.mc_base.specs.declared.refusal.Refusal.{Refusal}
use Rattle.mc_base.specs.declared.span.Span.{Span}
use Rattle.mc_catalog.specs.declared.catalog.Catalog.{Catalog}
use Rattle.mc_exec.specs.Planned.{plan_entries, plan_seeks}
use Rattle.mc_exec.specs.Work.{uses_like}
use Rattle.mc_gather.specs.Indexed.{index_fetches}
use Rattle.mc_order.specs.Meaning.{Meaning}
use Rattle.mc_typing.specs.Statements.{typed_statement}
use Rattle.mc_typing.specs.declared.typed.Typed.{Typed}
use Rattle.mycoll.specs.Answers.{read_said}
use Rattle.mycoll.specs.Reading.{Reads}
use Rattle.mycoll.specs.World.{World, State, Rows, session_of}

-- How many rows are fetched at most, and how many comparisons are made at most; None where LIKE
-- may compare, whose bound is another.
pub record Cost : Type 0 where
  pub fetches : ℕ
  pub compares : Option ℕ

-- Nothing is fetched or compared.
abbrev pub free : Cost
free = record { fetches = 0; compares = Some 0 }

-- The comparisons of one and of another, if both have their bound.
abbrev pub compares_of_both : Option ℕ → Option ℕ → Option ℕ
compares_of_both (Some a) (Some b) = Some (a + b)
compares_of_both (Some a) None = None
compares_of_both None b = None

-- One cost and another.
abbrev pub together : Cost → Cost → Cost
together a b = record {
  fetches = a.fetches + b.fetches;
  compares = compares_of_both a.compares b.compares;
}

-- The indexes of all tables are built once: each fetches the rows of its table.
abbrev pub index_cost : World → State → Cost
index_cost w s = record { fetches = index_fetches w.catalog s.rows; compares = Some 0 }

-- A SELECT may fetch each row that its plan reads once, also where a number is outside 64 bits.
abbrev pub select_cost : Catalog → (ℕ → Meaning) → List Rows → Typed → Cost
select_cost c meaning rows q = record {
  fetches = plan_entries c meaning rows q;
  compares = if uses_like q then None else Some (plan_seeks c meaning rows q);
}

-- EXPLAIN fetches no row.
abbrev pub explain_cost : Catalog → (ℕ → Meaning) → List Rows → Typed → Cost
explain_cost c meaning rows q =
    record { fetches = 0; compares = Some (plan_seeks c meaning rows q) }

-- What the answer to a typed statement over these rows may cost.
abbrev pub plan_cost : Catalog → (ℕ → Meaning) → List Rows → Typed → Cost
plan_cost c meaning rows q =
    if q.explain then explain_cost c meaning rows q else select_cost c meaning rows q

-- What the answer to a statement may cost that is typed so. A refusal of typing is free.
abbrev pub typed_cost : World → State → Result Typed Refusal → Cost
typed_cost w s (Ok q) = plan_cost w.catalog w.meaning s.rows q
typed_cost w s (Err refusal) = free

-- What the answer to a tree may cost.
unfoldable pub tree_cost : World → State → List ℕ → Statement → Cost
tree_cost w s script tree = typed_cost w s (typed_statement script tree w.catalog (session_of s))

-- What the answer to a statement may cost that reads so. A refusal of its syntax is free.
abbrev pub read_cost : World → State → List ℕ → Result Statement Refusal → Cost
read_cost w s script (Ok tree) = tree_cost w s script tree
read_cost w s script (Err refusal) = free

-- A statement may cost this in a state.
pub record IsCost (w : World) (before : State) (script : List ℕ) (statement : Span) (cost : Cost)
    : Type 0 where
  pub read : Result Statement Refusal
  pub reads : Reads script statement read
  pub costs : cost ≡ read_cost w before script read

-- Statements of a script may cost this, one behind the other, each in the state that the ones
-- before it left.
abbrev pub Costs : World → State → List ℕ → List Span → Cost → Type 0
Costs w before script [] cost = cost ≡ free
Costs w before script (statement ∷ statements) cost =
    (read : Result Statement Refusal) × Reads script statement read × (more : Cost)
    × Costs w (read_said w before script read).1 script statements more
    × (cost ≡ together (read_cost w before script read) more)

-- No more than a cost was spent: neither the counter of fetched rows nor that of comparisons rose
-- by more than its bound, if it has one.
pub record IsWithin (cost : Cost) (fetched fetched' compared compared' : ℕ) : Type 0 where
  pub fetches : fetched' ≤ fetched + cost.fetches
  pub compares : IfSome cost.compares (λ most. compared' ≤ compared + most)
