-- What the private parts do, a member at a time; no public clause cites it.
use Rattle.std.specs.Prelude.{◌≡◌, ℕ, ◌+◌, ◌≤◌, ◌<◌, Bool, true, false, IsTrue, nat_le, nat_lt}
use Rattle.std.specs.Prelude.{◌-◌, ◌&&◌, ⊤, All, IsSomeAnd, length, nat_eq, slice_get}
use Rattle.std.specs.Prelude.{List, [], ◌∷◌, ◌++◌, Option, Some, None, if◌then◌else◌}
use Rattle.std.specs.Prelude.{option_and_then, option_map}
use Rattle.mc_catalog.specs.declared.catalog.Catalog.{Catalog}
use Rattle.mc_catalog.specs.declared.catalog.IndexDecl.{IndexDecl}
use Rattle.mc_eval.specs.Fit.{fits}
use Rattle.mc_eval.specs.Outcomes.{IsKept}
use Rattle.mc_eval.specs.declared.truth.Truth.{Truth}
use Rattle.mc_plan.specs.Plans.{index_collation, indexes_at}
use Rattle.mc_plan.specs.declared.plan.Plan.{Plan}
use Rattle.mc_plan.specs.declared.plan.Plan.TheVariants.{Scan, ByIndex}
use Rattle.mc_range.specs.Bounds.{HasBounds}
use Rattle.mc_range.specs.declared.interval.Interval.{Interval}
use Rattle.mc_typing.specs.OfType.{IsRowOf}
use Rattle.mc_typing.specs.SoundStatements.{columns_at, row_types}
use Rattle.mc_typing.specs.declared.typed.TypedExpr.{TypedExpr}
use Rattle.mc_values.specs.declared.value.Value.{Value}
use Rattle.mc_exec.specs.Kept.{is_faulty, is_yes}

-- The counter stood still where there is no LIKE, and was never lowered.
pub record GoesOn (like : Bool) (old new : ℕ) : Type 0 where
  pub still : like ≡ false → new ≡ old
  pub later : old ≤ new

-- The counter rose by so many at most where there is no LIKE, and was never lowered.
pub record GoesUpTo (like : Bool) (most old new : ℕ) : Type 0 where
  pub within : like ≡ false → new ≤ old + most
  pub later : old ≤ new

-- An index of the table serves intervals: the catalog declares it, over a column with one of so
-- many collations, and bounds can be made of the intervals' ends.
pub record Serves (count : ℕ) (c : Catalog) (table : Option ℕ) (index : ℕ)
    (intervals : List Interval) : Type 0 where
  pub declared : IsSomeAnd (slice_get (indexes_at c table) index)
      (λ it. IsSomeAnd (index_collation (columns_at c table) it) (λ coll. coll.0 < count))
  pub bounds : All HasBounds intervals

-- The plan's index, if it has one, serves its intervals.
abbrev pub IsServed : ℕ → Catalog → Option ℕ → Plan → Type 0
IsServed count c table Scan = ⊤
IsServed count c table (ByIndex index conjunct intervals) = Serves count c table index intervals

-- The plan's index, if it has one, is one of these.
abbrev pub IsAmong : List IndexDecl → Plan → Type 0
IsAmong indexes Scan = ⊤
IsAmong indexes (ByIndex index conjunct intervals) = index < length indexes

-- A row behind others, if it is accepted.
abbrev pub kept_with : {R : Type 0} → Truth → List R → R → Option (List R)
kept_with it found row = if is_faulty it then None
    else Some (if is_yes it then found ++ row ∷ [] else found)

-- These rows and those of others that are accepted behind them.
unfoldable pub with_kept : {R : Type 0} → (R → Truth) → List R → List R → Option (List R)
with_kept accepted found [] = Some found
with_kept accepted found (row ∷ rows) = option_and_then
    (λ more. with_kept accepted more rows) (kept_with (accepted row) found row)

-- These members and what others give behind them.
unfoldable pub with_all : {A B : Type 0} → (A → Option B) → List B → List A → Option (List B)
with_all given found [] = Some found
with_all given found (x ∷ xs) =
    option_and_then (λ it. with_all given (found ++ it ∷ []) xs) (given x)

-- These members, and what one more gives.
abbrev pub appended : {B : Type 0} → List B → Option B → Option (List B)
appended found one = option_map (λ it. found ++ it ∷ []) one

-- The place is within the limit.
abbrev pub is_shown : Option (ℕ × ℕ) → ℕ → Bool
is_shown None place = true
is_shown (Some limit) place = nat_le limit.0 place && nat_lt (place - limit.0) limit.1

-- These rows, and one more if its place is shown.
abbrev pub shown_with : {B : Type 0} → Option (ℕ × ℕ) → ℕ → List B → B → List B
shown_with limit place shown it = if is_shown limit place then shown ++ it ∷ [] else shown

-- These rows and those that others give behind them, from a place on, as far as they are shown.
unfoldable pub with_shown : {A B : Type 0} → (A → Option B) → Option (ℕ × ℕ) → ℕ → List B
    → List A → Option (List B)
with_shown given limit place shown [] = Some shown
with_shown given limit place shown (x ∷ xs) = option_and_then
    (λ it. with_shown given limit (place + 1) (shown_with limit place shown it) xs) (given x)

-- The members at which a number is the next one that is new, counted from a number on.
unfoldable pub picked : {A : Type 0} → ℕ → List ℕ → List A → List A
picked count [] xs = []
picked count (n ∷ numbers) [] = []
picked count (n ∷ numbers) (x ∷ xs) =
    if nat_eq n count then x ∷ picked (count + 1) numbers xs else picked count numbers xs

-- A row that a statement over this table reads: its values may be kept, and are of the columns'
-- types.
pub record IsReadable (c : Catalog) (table : Option ℕ) (row : List Value) : Type 0 where
  pub kept : All IsKept row
  pub typed : IsRowOf (row_types c table) row

-- An expression can be evaluated with so many collations.
abbrev pub IsFit : ℕ → TypedExpr → Type 0
IsFit count e = IsTrue (fits count e)
