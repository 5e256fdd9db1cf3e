-- The rows that a plan reads: MySQL 8.0 manual, 8.2.1.2.
use Rattle.std.specs.Prelude.{ℕ, Bool, true, false, ◌&&◌, List, Option, Some, None, length}
use Rattle.std.specs.Prelude.{filter, slice_get}
use Rattle.std.specs.List.{list_any}
use Rattle.std.specs.Option.{option_map_or}
use Rattle.std.specs.Ordering.{is_ge, is_le}
use Rattle.mc_catalog.specs.declared.catalog.Catalog.{Catalog}
use Rattle.mc_catalog.specs.declared.catalog.ColumnDecl.{ColumnDecl}
use Rattle.mc_catalog.specs.declared.catalog.IndexDecl.{IndexDecl}
use Rattle.mc_charset.specs.Chars.{chars}
use Rattle.mc_order.specs.Meaning.{Meaning}
use Rattle.mc_order.specs.Order.{list_order}
use Rattle.mc_range.specs.Finds.{index_list}
use Rattle.mc_range.specs.declared.interval.Interval.{Interval}
use Rattle.mc_typing.specs.SoundStatements.{columns_at}
use Rattle.mc_values.specs.declared.value.Value.{Value}
use Rattle.mc_values.specs.declared.value.Value.TheVariants as value
use Rattle.mc_plan.specs.Plans.{index_collation, indexes_at}
use Rattle.mc_plan.specs.declared.plan.Plan.{Plan}
use Rattle.mc_plan.specs.declared.plan.Plan.TheVariants.{Scan, ByIndex}

-- The list is not below the end, which may be open.
abbrev pub is_from : Meaning → List ℕ → Option (List ℕ) → Bool
is_from m list end = option_map_or (λ low. is_ge (list_order m.pad m.space list low)) end true

-- The list is not above the end, which may be open.
abbrev pub is_up_to : Meaning → List ℕ → Option (List ℕ) → Bool
is_up_to m list end = option_map_or (λ high. is_le (list_order m.pad m.space list high)) end true

-- The list lies in the interval, whose ends count.
abbrev pub is_in : Meaning → List ℕ → Interval → Bool
is_in m list interval = is_from m list interval.lo && is_up_to m list interval.hi

-- The list lies in one of the intervals.
abbrev pub is_in_one : Meaning → List ℕ → List Interval → Bool
is_in_one m list intervals = list_any (is_in m list) intervals

-- The value is a text whose index list lies in one of the intervals; NULL is none.
abbrev pub is_found : Meaning → Option ℕ → List Interval → Value → Bool
is_found m prefix intervals (value.Str set text) =
    is_in_one m (index_list m prefix (chars m.charset text)) intervals
is_found m prefix intervals it = false

-- The value at a place of a row.
abbrev pub value_at : List Value → ℕ → Value
value_at row place = option_map_or (λ it. it) (slice_get row place) value.Null

-- The row's value in the index's column is found in the intervals.
abbrev pub is_entry_of : (ℕ → Meaning) → List ColumnDecl → List Interval → IndexDecl → List Value
    → Bool
is_entry_of meaning columns intervals index row = option_map_or
    (λ coll. is_found (meaning coll.0) index.prefix intervals (value_at row index.column))
    (index_collation columns index) false

-- The plan reads the row of the table at a place: each row in a scan, and else those that the index
-- has in one of the intervals.
unfoldable pub is_entry : Catalog → (ℕ → Meaning) → Option ℕ → Plan → List Value → Bool
is_entry c meaning table Scan row = true
is_entry c meaning table (ByIndex index conjunct intervals) row = option_map_or
    (λ it. is_entry_of meaning (columns_at c table) intervals it row)
    (slice_get (indexes_at c table) index) false

-- How many of the table's rows a plan reads; without a table there are none.
unfoldable pub entries : Catalog → (ℕ → Meaning) → Option ℕ → Plan → List (List Value) → ℕ
entries c meaning None plan rows = 0
entries c meaning (Some place) plan rows =
    length (filter (is_entry c meaning (Some place) plan) rows)
