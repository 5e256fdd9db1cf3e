-- What the private parts keep, an index and a conjunct at a time; no public clause cites it.
use Rattle.std.specs.Prelude.{◌≡◌, ℕ, ◌<◌, false, List, [], IfSome, IsSomeAnd, slice_get}
use Rattle.mc_catalog.specs.declared.catalog.ColumnDecl.{ColumnDecl}
use Rattle.mc_catalog.specs.declared.catalog.IndexDecl.{IndexDecl}
use Rattle.mc_charset.specs.declared.collation_id.CollId.{CollId}
use Rattle.mc_eval.specs.Acceptance.{acceptance}
use Rattle.mc_eval.specs.Node.{place}
use Rattle.mc_eval.specs.declared.truth.Truth.TheVariants.{No}
use Rattle.mc_order.specs.Meaning.{Meaning}
use Rattle.mc_range.specs.declared.interval.Interval.{Interval}
use Rattle.mc_typing.specs.declared.typed.TypedExpr.{TypedExpr}
use Rattle.mc_values.specs.declared.value.Value.{Value}
use Rattle.mc_plan.specs.Entries.{is_entry_of, is_found, value_at}
use Rattle.mc_plan.specs.Plans.{index_collation}
use Rattle.mc_plan.specs.Rejects.{IsOfSet, IsRejected}

-- The collation of the index's column, if it has one, is one of so many.
abbrev pub IsInBook : ℕ → List ColumnDecl → IndexDecl → Type 0
IsInBook count columns index = IfSome (index_collation columns index) (λ coll. coll.0 < count)

-- The row's value in the index's column is NULL or a text of the set of the column's collation.
abbrev pub HasSet : (ℕ → Meaning) → List ColumnDecl → IndexDecl → List Value → Type 0
HasSet meaning columns index row = IfSome (index_collation columns index)
    (λ coll. IsOfSet (meaning coll.0).charset (value_at row index.column))

-- The row's value in the index's column is a text of the set, or NULL, and not in the intervals.
abbrev pub IsOutside : (ℕ → Meaning) → IndexDecl → CollId → List Interval → List Value → Type 0
IsOutside meaning index coll intervals row =
    IsOfSet (meaning coll.0).charset (value_at row index.column)
    × (is_found (meaning coll.0) index.prefix intervals (value_at row index.column) ≡ false)

-- The conjunct rejects each row that is outside the intervals.
abbrev pub RejectsOutside : (ℕ → Meaning) → IndexDecl → CollId → TypedExpr → List Interval → Type 0
RejectsOutside meaning index coll e intervals = (row : List Value)
    → IsOutside meaning index coll intervals row → IsRejected (place row [] meaning) e

-- Together the conjuncts do.
abbrev pub RejectOutside : (ℕ → Meaning) → IndexDecl → CollId → List TypedExpr → List Interval
    → Type 0
RejectOutside meaning index coll conjuncts intervals = (row : List Value)
    → IsOutside meaning index coll intervals row → acceptance (place row [] meaning) conjuncts ≡ No

-- The conjuncts reject each row that the index doesn't have in the intervals.
abbrev pub RejectRest : (ℕ → Meaning) → List ColumnDecl → List TypedExpr → IndexDecl
    → List Interval → Type 0
RejectRest meaning columns conjuncts index intervals = (row : List Value)
    → HasSet meaning columns index row → is_entry_of meaning columns intervals index row ≡ false
    → acceptance (place row [] meaning) conjuncts ≡ No

-- The index that was found, with the intervals, is one of the table's, and so it is of that one.
abbrev pub RejectFound : (ℕ → Meaning) → List ColumnDecl → List TypedExpr → List IndexDecl
    → ℕ × (ℕ × List Interval) → Type 0
RejectFound meaning columns conjuncts indexes found = IsSomeAnd (slice_get indexes found.0)
    (λ index. RejectRest meaning columns conjuncts index found.1.1)
