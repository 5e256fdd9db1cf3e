-- The plan of a statement: the index by which its rows are found. MySQL 8.0 manual, 8.8.1.
use Rattle.std.specs.Prelude.{ℕ, suc, ◌<◌, List, [], ◌∷◌, Option, Some, None, ⊤, length}
use Rattle.std.specs.Prelude.{All, IsSomeAnd}
use Rattle.std.specs.Prelude.{option_and_then, option_map, slice_get, unwrap_or}
use Rattle.mc_catalog.specs.declared.catalog.Catalog.{Catalog}
use Rattle.mc_catalog.specs.declared.catalog.ColumnDecl.{ColumnDecl}
use Rattle.mc_catalog.specs.declared.catalog.ColumnType.{ColumnType}
use Rattle.mc_catalog.specs.declared.catalog.ColumnType.TheVariants.{BigInt, Char, VarChar, Binary}
use Rattle.mc_catalog.specs.declared.catalog.ColumnType.TheVariants.{VarBinary}
use Rattle.mc_catalog.specs.declared.catalog.IndexDecl.{IndexDecl}
use Rattle.mc_charset.specs.declared.collation_id.CollId.{CollId}
use Rattle.mc_order.specs.Meaning.{Meaning}
use Rattle.mc_range.specs.Bounds.{HasBounds}
use Rattle.mc_range.specs.Intervals.{intervals_of}
use Rattle.mc_range.specs.declared.interval.Interval.{Interval}
use Rattle.mc_typing.specs.SoundStatements.{columns_at}
use Rattle.mc_typing.specs.declared.typed.Typed.{Typed}
use Rattle.mc_typing.specs.declared.typed.TypedExpr.{TypedExpr}
use Rattle.mc_plan.specs.Conds.{cond_of}
use Rattle.mc_plan.specs.declared.plan.Plan.{Plan}
use Rattle.mc_plan.specs.declared.plan.Plan.TheVariants.{Scan, ByIndex}

-- The collation of a column of this type: of binary strings `binary`, of numbers none.
abbrev pub type_collation : ColumnType → Option CollId
type_collation BigInt = None
type_collation (Char n coll) = Some coll
type_collation (VarChar n coll) = Some coll
type_collation (Binary n) = Some (record { 0 = 0 })
type_collation (VarBinary n) = Some (record { 0 = 0 })

-- The collation of the column that an index covers.
abbrev pub index_collation : List ColumnDecl → IndexDecl → Option CollId
index_collation columns index =
    option_and_then (λ column. type_collation column.ty) (slice_get columns index.column)

-- The intervals that a conjunct names in an index of a column with this collation.
abbrev pub ranges : (ℕ → Meaning) → IndexDecl → CollId → TypedExpr → Option (List Interval)
ranges meaning index coll e = option_and_then (intervals_of (meaning coll.0) index.prefix)
    (cond_of (meaning coll.0).charset index.column coll e)

-- The first member that gives something: its place, counted from 0, and what it gives.
unfoldable pub first_given : {A B : Type 0} → (A → Option B) → List A → Option (ℕ × B)
first_given given [] = None
first_given given (x ∷ xs) = elim (given x) [
  | Some it ↦ Some (0, it)
  | None ↦ option_map (λ found. (suc found.0, found.1)) (first_given given xs)
]

-- The first conjunct that names intervals in the index.
abbrev pub index_choice : (ℕ → Meaning) → List ColumnDecl → List TypedExpr → IndexDecl
    → Option (ℕ × List Interval)
index_choice meaning columns conjuncts index = option_and_then
    (λ coll. first_given (ranges meaning index coll) conjuncts) (index_collation columns index)

-- The indexes of the table at a place, if there is one, in the catalog's order.
abbrev pub indexes_at : Catalog → Option ℕ → List IndexDecl
indexes_at c place = unwrap_or (option_map (λ table. table.indexes)
    (option_and_then (λ p. slice_get c.tables p) place)) []

-- The plan by what was found.
abbrev pub plan_of : Option (ℕ × (ℕ × List Interval)) → Plan
plan_of None = Scan
plan_of (Some found) = ByIndex found.0 found.1.0 found.1.1

-- The plan of a statement: the first index of its table in which some conjunct names intervals,
-- with the first such conjunct, or else a scan.
unfoldable pub chosen : Catalog → (ℕ → Meaning) → Typed → Plan
chosen c meaning q = plan_of (first_given
    (index_choice meaning (columns_at c q.table) q.conjuncts) (indexes_at c q.table))

-- The plan's index is one of the table's, over a column whose collation is one of so many, and its
-- conjunct is one of the statement's.
abbrev pub HasPlaces : ℕ → Catalog → Typed → Plan → Type 0
HasPlaces count c q Scan = ⊤
HasPlaces count c q (ByIndex index conjunct intervals) = (conjunct < length q.conjuncts)
    × IsSomeAnd (slice_get (indexes_at c q.table) index)
    (λ it. IsSomeAnd (index_collation (columns_at c q.table) it) (λ coll. coll.0 < count))

-- Bounds can be made of the ends of the plan's intervals.
abbrev pub HasPlanBounds : Plan → Type 0
HasPlanBounds Scan = ⊤
HasPlanBounds (ByIndex index conjunct intervals) = All HasBounds intervals
