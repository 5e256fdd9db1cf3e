-- What rows through an index are: those of the table that are found in the intervals.
use Rattle.std.specs.Prelude.{◌≡◌, ◌<◌, ℕ, List, [], Some, All, filter, length, map}
use Rattle.std.specs.Prelude.{slice_index_or}
use Rattle.mc_catalog.specs.declared.catalog.ColumnDecl.{ColumnDecl}
use Rattle.mc_catalog.specs.declared.catalog.IndexDecl.{IndexDecl}
use Rattle.mc_charset.specs.declared.collation_id.CollId.{CollId}
use Rattle.mc_index.specs.Entries.{SeenIndex}
use Rattle.mc_order.specs.Meaning.{Meaning}
use Rattle.mc_range.specs.declared.interval.Interval.{Interval}
use Rattle.mc_values.specs.declared.value.Value.{Value}
use Rattle.mc_plan.specs.Entries.{is_entry_of}
use Rattle.mc_plan.specs.Plans.{index_collation}
use Rattle.mc_gather.specs.Indexed.{IsIndexOf}
use Rattle.mc_gather.specs.Through.{AreRowsThrough}

-- The rows of these numbers, of a table's rows.
abbrev pub rows_of : List (List Value) → List ℕ → List (List Value)
rows_of rows numbers = map (λ number. slice_index_or rows number []) numbers

-- One list of rows goes through an index in intervals.
abbrev pub ThroughIsOne : Type 0
ThroughIsOne = (index : SeenIndex) (intervals : List Interval) (rows others : List ℕ)
    → AreRowsThrough index intervals rows → AreRowsThrough index intervals others → rows ≡ others

-- The numbers that an index of a table's rows has in intervals are those of rows of the table.
abbrev pub ThroughIsInTable : Type 0
ThroughIsInTable = (meaning : ℕ → Meaning) (columns : List ColumnDecl) (rows : List (List Value))
    (index : IndexDecl) (coll : CollId) (held : SeenIndex) (intervals : List Interval)
    (numbers : List ℕ) → index_collation columns index ≡ Some coll
    → IsIndexOf meaning columns rows index held → AreRowsThrough held intervals numbers
    → All (λ number. number < length rows) numbers

-- They are exactly the rows that are found in the intervals, in the table's order.
abbrev pub ThroughIsFound : Type 0
ThroughIsFound = (meaning : ℕ → Meaning) (columns : List ColumnDecl) (rows : List (List Value))
    (index : IndexDecl) (coll : CollId) (held : SeenIndex) (intervals : List Interval)
    (numbers : List ℕ) → index_collation columns index ≡ Some coll
    → IsIndexOf meaning columns rows index held → AreRowsThrough held intervals numbers
    → rows_of rows numbers ≡ filter (is_entry_of meaning columns intervals index) rows
