-- Why a plan's rows are found through its index, and how many comparisons that takes: MySQL 8.0
-- manual, 8.2.1.2.
use Rattle.std.specs.Prelude.{◌≡◌, ◌<◌, ℕ, ◌*◌, List, Option, Some, All, IsSome, IsSomeAnd}
use Rattle.std.specs.Prelude.{filter, length, option_and_then, slice_get}
use Rattle.std.specs.Option.{is_some, option_map_or}
use Rattle.mc_catalog.specs.declared.catalog.Catalog.{Catalog}
use Rattle.mc_catalog.specs.declared.catalog.IndexDecl.{IndexDecl}
use Rattle.mc_charset.specs.declared.collation_id.CollId.{CollId}
use Rattle.mc_index.specs.Digits.{binary_digits}
use Rattle.mc_index.specs.Entries.{SeenIndex}
use Rattle.mc_order.specs.Meaning.{Meaning}
use Rattle.mc_plan.specs.Entries.{entries, is_entry, value_at}
use Rattle.mc_plan.specs.Plans.{index_collation, indexes_at}
use Rattle.mc_plan.specs.declared.plan.Plan.{Plan}
use Rattle.mc_plan.specs.declared.plan.Plan.TheVariants.{Scan, ByIndex}
use Rattle.mc_range.specs.declared.interval.Interval.{Interval}
use Rattle.mc_typing.specs.SoundStatements.{columns_at}
use Rattle.mc_values.specs.declared.value.Value.{Value}
use Rattle.mc_gather.specs.IndexLaws.{rows_of}
use Rattle.mc_gather.specs.Indexed.{FitBook, rows_in, text_of}
use Rattle.mc_gather.specs.Through.{AreRowsThrough}

-- The table at a place declares the index, over a column that has a collation.
abbrev pub IsDeclared : Catalog → ℕ → ℕ → Type 0
IsDeclared c place index = IsSomeAnd (slice_get (indexes_at c (Some place)) index)
    (λ it. IsSome (index_collation (columns_at c (Some place)) it))

-- The index that is held for the table at a place.
abbrev pub held_at : List (List SeenIndex) → ℕ → ℕ → Option SeenIndex
held_at indexes place index =
    option_and_then (λ held. slice_get held index) (slice_get indexes place)

-- The numbers are those of the rows that the plan reads, and of no others, in the table's order.
pub record AreRead (c : Catalog) (meaning : ℕ → Meaning) (place : ℕ) (plan : Plan)
    (rows : List (List Value)) (numbers : List ℕ) : Type 0 where
  pub in_table : All (λ number. number < length rows) numbers
  pub found : rows_of rows numbers ≡ filter (is_entry c meaning (Some place) plan) rows
  pub counted : length numbers ≡ entries c meaning (Some place) plan rows

-- What an index of the table has in a plan's intervals are the rows that the plan reads.
abbrev pub ThroughIsRead : Type 0
ThroughIsRead = (c : Catalog) (meaning : ℕ → Meaning) (rows : List (List (List Value)))
    (indexes : List (List SeenIndex)) (place index conjunct : ℕ) (intervals : List Interval)
    (held : SeenIndex) (numbers : List ℕ) → FitBook c meaning rows indexes
    → IsDeclared c place index → held_at indexes place index ≡ Some held
    → AreRowsThrough held intervals numbers
    → AreRead c meaning place (ByIndex index conjunct intervals) (rows_in rows place) numbers

-- How many rows have a text in the index's column.
abbrev pub text_count : IndexDecl → List (List Value) → ℕ
text_count index rows =
    length (filter (λ row. is_some (text_of (value_at row index.column))) rows)

-- What is held has the padding and the space of a collation's keys, and an entry for each text.
pub record IsHeldFor (m : Meaning) (index : IndexDecl) (rows : List (List Value))
    (held : SeenIndex) : Type 0 where
  pub pad : held.pad ≡ m.pad
  pub space : held.space ≡ m.space
  pub counted : length held.entries ≡ text_count index rows

-- An index that a table declares, over a column that has a collation, is held for it.
abbrev pub HeldIsFound : Type 0
HeldIsFound = (c : Catalog) (meaning : ℕ → Meaning) (rows : List (List (List Value)))
    (indexes : List (List SeenIndex)) (place index : ℕ) (it : IndexDecl) (coll : CollId)
    → FitBook c meaning rows indexes → slice_get (indexes_at c (Some place)) index ≡ Some it
    → index_collation (columns_at c (Some place)) it ≡ Some coll
    → IsSomeAnd (held_at indexes place index) (IsHeldFor (meaning coll.0) it (rows_in rows place))

-- How many comparisons the seeks of a plan make at most, over the rows of the table at a place: for
-- the two ends of each interval as many as the number of the index's entries has binary digits.
abbrev pub seeks : Catalog → Option ℕ → Plan → List (List Value) → ℕ
seeks c table Scan rows = 0
seeks c table (ByIndex index conjunct intervals) rows = option_map_or
    (λ it. length intervals * (2 * binary_digits (text_count it rows)))
    (slice_get (indexes_at c table) index) 0
