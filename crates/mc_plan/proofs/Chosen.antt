-- The plan that is chosen, in a table and without one.
use Rattle.std.proofs.Common.{◌≡◌, ℕ, ◌<◌, false, List, [], Some, None, length, map, refl, sym}
use Rattle.std.proofs.Common.{ap, subst, ◌∙◌}
use Rattle.std.proofs.lemmas.Bool.{true≢false}
use Rattle.std.proofs.lemmas.Option.{option_and_then_some, slice_get_within}
use Rattle.std.specs.Prelude.{All, IfSome, IsSomeAnd, Option}
use Rattle.std.specs.Prelude.{option_map, slice_get, unwrap_or}
use Rattle.std.specs.Option.{option_map_or}
use Rattle.mc_catalog.specs.Fits.{FitsCatalog}
use Rattle.mc_catalog.specs.Lawful.{IsLawful, IsLawfulTable}
use Rattle.mc_catalog.specs.declared.catalog.Catalog.{Catalog}
use Rattle.mc_catalog.specs.declared.catalog.ColumnDecl.{ColumnDecl}
use Rattle.mc_catalog.specs.declared.catalog.IndexDecl.{IndexDecl}
use Rattle.mc_catalog.specs.declared.catalog.TableDecl.{TableDecl}
use Rattle.mc_charset.specs.declared.collation_id.CollId.{CollId}
use Rattle.mc_order.specs.Meaning.{Meaning}
use Rattle.mc_range.specs.Bounds.{HasBounds}
use Rattle.mc_range.specs.declared.interval.Interval.{Interval}
use Rattle.mc_typing.specs.Columns.{column_ty}
use Rattle.mc_typing.specs.OfType.{IsRowOf}
use Rattle.mc_typing.specs.SoundStatements.{columns_at}
use Rattle.mc_typing.specs.declared.typed.Typed.{Typed}
use Rattle.mc_typing.specs.declared.typed.TypedExpr.{TypedExpr}
use Rattle.mc_values.specs.declared.value.Value.{Value}
use Rattle.mc_eval.specs.Acceptance.{acceptance}
use Rattle.mc_eval.specs.Node.{place}
use Rattle.mc_eval.specs.declared.truth.Truth.TheVariants.{No}
use Rattle.mc_plan.specs.Entries.{is_entry, is_entry_of}
use Rattle.mc_plan.specs.Plans.{HasPlaces, HasPlanBounds, chosen, first_given, index_choice}
use Rattle.mc_plan.specs.Plans.{index_collation, indexes_at, plan_of, ranges}
use Rattle.mc_plan.specs.Rejects.{LosesNone}
use Rattle.mc_plan.specs.Steps.{HasSet, IsInBook, RejectFound, RejectRest}
use Rattle.mc_plan.specs.declared.plan.Plan.{Plan}
use Rattle.mc_plan.specs.declared.plan.Plan.TheVariants.{Scan, ByIndex}
use Rattle.mc_plan.proofs.Found.{is_given}
use Rattle.mc_plan.proofs.Served.{has_set, index_in, lawful_at, some_collations}

abbrev Found : Type 0
Found = ℕ × (ℕ × List Interval)

-- Without a table rows are scanned.
pub chosen_none : (c : Catalog) (meaning : ℕ → Meaning) (q : Typed) → q.table ≡ None
    → Scan ≡ chosen c meaning q
unfolding chosen first_given
chosen_none c meaning q e = sym (ap (λ o. plan_of (first_given
    (index_choice meaning (columns_at c o) q.conjuncts) (indexes_at c o))) e)

-- A scan reads each row.
pub scan_loses_none : (c : Catalog) (meaning : ℕ → Meaning) (q : Typed) → LosesNone c meaning q Scan
unfolding is_entry
scan_loses_none c meaning q row h n = absurd (true≢false n)

-- What a catalog has at a place where it has this table.
columns_are : (c : Catalog) (p : ℕ) (table : TableDecl) → slice_get c.tables p ≡ Some table
    → columns_at c (Some p) ≡ table.columns
columns_are c p table e =
    ap (λ o. unwrap_or (option_map (λ (t : TableDecl). t.columns) o) []) e

indexes_are : (c : Catalog) (p : ℕ) (table : TableDecl) → slice_get c.tables p ≡ Some table
    → indexes_at c (Some p) ≡ table.indexes
indexes_are c p table e =
    ap (λ o. unwrap_or (option_map (λ (t : TableDecl). t.indexes) o) []) e

-- What is found in the table makes the plan.
pub chosen_in : (c : Catalog) (meaning : ℕ → Meaning) (q : Typed) (p : ℕ) (table : TableDecl)
    (found : Option Found) (plan : Plan) → q.table ≡ Some p → slice_get c.tables p ≡ Some table
    → found ≡ first_given (index_choice meaning table.columns q.conjuncts) table.indexes
    → plan ≡ plan_of found → plan ≡ chosen c meaning q
unfolding chosen
chosen_in c meaning q p table found plan t e f g =
    g ∙ (ap plan_of f ∙ sym (ap (λ o. plan_of (first_given
    (index_choice meaning (columns_at c o) q.conjuncts) (indexes_at c o))) t
    ∙ (ap (λ columns. plan_of (first_given (index_choice meaning columns q.conjuncts)
    (indexes_at c (Some p)))) (columns_are c p table e)
    ∙ ap (λ indexes. plan_of (first_given (index_choice meaning table.columns q.conjuncts)
    indexes)) (indexes_are c p table e))))

-- The table's columns, the conjuncts and its indexes as they are lent.
pub found_lent : (meaning : ℕ → Meaning) (q : Typed) (table : TableDecl)
    (columns : List ColumnDecl) (conjuncts : List TypedExpr) (indexes : List IndexDecl)
    (found : Option Found) → columns ≡ table.columns → conjuncts ≡ q.conjuncts
    → indexes ≡ table.indexes
    → found ≡ first_given (index_choice meaning columns conjuncts) indexes
    → found ≡ first_given (index_choice meaning table.columns q.conjuncts) table.indexes
found_lent meaning q table columns conjuncts indexes found d e f h =
    subst (λ l. found ≡ first_given (index_choice meaning l q.conjuncts) table.indexes) d
    (subst (λ l. found ≡ first_given (index_choice meaning columns l) table.indexes) e
    (subst (λ l. found ≡ first_given (index_choice meaning columns conjuncts) l) f h))

pub rejects_lent : (meaning : ℕ → Meaning) (q : Typed) (table : TableDecl)
    (columns : List ColumnDecl) (conjuncts : List TypedExpr) (indexes : List IndexDecl)
    (found : Option Found) → columns ≡ table.columns → conjuncts ≡ q.conjuncts
    → indexes ≡ table.indexes → IfSome found (RejectFound meaning columns conjuncts indexes)
    → IfSome found (RejectFound meaning table.columns q.conjuncts table.indexes)
rejects_lent meaning q table columns conjuncts indexes found d e f h =
    subst (λ l. IfSome found (RejectFound meaning l q.conjuncts table.indexes)) d
    (subst (λ l. IfSome found (RejectFound meaning columns l table.indexes)) e
    (subst (λ l. IfSome found (RejectFound meaning columns conjuncts l)) f h))

-- Its index and its conjunct are there.

-- The collations of a table's indexes are in a book that has as many as the catalog.
pub indexes_in_book : (count : ℕ) (c : Catalog) (q : Typed) (p : ℕ) (table : TableDecl)
    → IsLawful c → count ≡ length c.collations → q.table ≡ Some p
    → slice_get c.tables p ≡ Some table → (index : IndexDecl)
    → IsInBook count (columns_at c q.table) index
indexes_in_book count c q p table l counted e at index =
    subst (λ columns. IsInBook count columns index)
    (sym (ap (columns_at c) e ∙ columns_are c p table at))
    (subst (λ n. IsInBook n table.columns index) (sym counted)
    (index_in (length c.collations) table (some_collations c l) (lawful_at c l p table at) index))

some_in_book : (count : ℕ) (o : Option CollId) (coll : CollId) → o ≡ Some coll
    → IfSome o (λ id. id.0 < count) → IsSomeAnd o (λ id. id.0 < count)
some_in_book count None coll e h = absurd (cc)
some_in_book count (Some id) coll e h = h

given_within : {A B : Type 0} (given : A → Option B) (xs : List A) (found : ℕ × B)
    → first_given given xs ≡ Some found → found.0 < length xs
given_within {A = A} given xs found h =
    of_place (slice_get xs found.0) refl (is_given given xs found h)
  where
    of_place : (o : Option A) → slice_get xs found.0 ≡ o
        → IsSomeAnd o (λ x. given x ≡ Some found.1) → found.0 < length xs
    of_place None e k = absurd k
    of_place (Some x) e k = slice_get_within xs found.0 x e

choice_places : (count : ℕ) (meaning : ℕ → Meaning) (columns : List ColumnDecl)
    (conjuncts : List TypedExpr) (index : IndexDecl) (it : ℕ × List Interval)
    → IsInBook count columns index → index_choice meaning columns conjuncts index ≡ Some it
    → (it.0 < length conjuncts)
    × IsSomeAnd (index_collation columns index) (λ coll. coll.0 < count)
choice_places count meaning columns conjuncts index it b h = option_and_then_some
    (λ (coll : CollId). first_given (ranges meaning index coll) conjuncts)
    (index_collation columns index) it h (λ coll e k. (
      given_within (ranges meaning index coll) conjuncts it k,
      some_in_book count (index_collation columns index) coll e b,
    ))

places_in : (count : ℕ) (meaning : ℕ → Meaning) (columns : List ColumnDecl)
    (conjuncts : List TypedExpr) (it : ℕ × List Interval) (o : Option IndexDecl)
    → ((index : IndexDecl) → IsInBook count columns index)
    → IsSomeAnd o (λ index. index_choice meaning columns conjuncts index ≡ Some it)
    → (it.0 < length conjuncts) × IsSomeAnd o
    (λ index. IsSomeAnd (index_collation columns index) (λ coll. coll.0 < count))
places_in count meaning columns conjuncts it None b h = absurd h
places_in count meaning columns conjuncts it (Some index) b h =
    choice_places count meaning columns conjuncts index it (b index) h

places_of : (count : ℕ) (c : Catalog) (meaning : ℕ → Meaning) (q : Typed) (o : Option Found)
    → ((index : IndexDecl) → IsInBook count (columns_at c q.table) index)
    → first_given (index_choice meaning (columns_at c q.table) q.conjuncts) (indexes_at c q.table)
    ≡ o → HasPlaces count c q (plan_of o)
places_of count c meaning q None b h = tt
places_of count c meaning q (Some found) b h =
    places_in count meaning (columns_at c q.table) q.conjuncts found.1
    (slice_get (indexes_at c q.table) found.0) b (is_given
    (index_choice meaning (columns_at c q.table) q.conjuncts) (indexes_at c q.table) found h)

pub has_places : (count : ℕ) (c : Catalog) (meaning : ℕ → Meaning) (q : Typed) (plan : Plan)
    → ((index : IndexDecl) → IsInBook count (columns_at c q.table) index)
    → plan ≡ chosen c meaning q → HasPlaces count c q plan
unfolding chosen
has_places count c meaning q plan b e =
    subst (HasPlaces count c q) (sym e) (places_of count c meaning q _ b refl)

-- Of the ends of its intervals bounds can be made.
pub has_bounds : (found : Option Found) (plan : Plan) → plan ≡ plan_of found
    → IfSome found (λ it. All HasBounds it.1.1) → HasPlanBounds plan
has_bounds None plan e h = subst HasPlanBounds (sym e) tt
has_bounds (Some found) plan e h = subst HasPlanBounds (sym e) h

-- No row that it leaves out is accepted.

rest_rejected : (meaning : ℕ → Meaning) (columns : List ColumnDecl) (conjuncts : List TypedExpr)
    (intervals : List Interval) (row : List Value) (o : Option IndexDecl)
    → IsSomeAnd o (λ index. RejectRest meaning columns conjuncts index intervals)
    → ((index : IndexDecl) → HasSet meaning columns index row)
    → option_map_or (λ it. is_entry_of meaning columns intervals it row) o false ≡ false
    → acceptance (place row [] meaning) conjuncts ≡ No
rest_rejected meaning columns conjuncts intervals row None h s n = absurd h
rest_rejected meaning columns conjuncts intervals row (Some index) h s n = h row (s index) n

found_loses_none : (c : Catalog) (meaning : ℕ → Meaning) (q : Typed) (p : ℕ) (table : TableDecl)
    → IsLawful c → FitsCatalog c (length c.collations) (λ id. (meaning id).charset)
    → IsLawfulTable (length c.collations) table → q.table ≡ Some p
    → slice_get c.tables p ≡ Some table → (found : Found)
    → RejectFound meaning table.columns q.conjuncts table.indexes found
    → LosesNone c meaning q (ByIndex found.0 found.1.0 found.1.1)
unfolding is_entry
found_loses_none c meaning q p table l f t e at found r row h n =
    let columns : columns_at c q.table ≡ table.columns =
    ap (columns_at c) e ∙ columns_are c p table at in
    let indexes : indexes_at c q.table ≡ table.indexes =
    ap (indexes_at c) e ∙ indexes_are c p table at in
    rest_rejected meaning table.columns q.conjuncts found.1.1 row
    (slice_get table.indexes found.0) r
    (λ index. has_set c meaning l f table t index row
    (subst (λ (cs : List ColumnDecl). IsRowOf (map (λ column. column_ty c column.ty) cs) row)
    columns h))
    (sym (ap (λ cs. option_map_or (λ it. is_entry_of meaning cs found.1.1 it row)
    (slice_get (indexes_at c q.table) found.0) false) columns
    ∙ ap (λ is. option_map_or (λ it. is_entry_of meaning table.columns found.1.1 it row)
    (slice_get is found.0) false) indexes) ∙ n)

pub loses_none : (c : Catalog) (meaning : ℕ → Meaning) (q : Typed) (p : ℕ) (table : TableDecl)
    → IsLawful c → FitsCatalog c (length c.collations) (λ id. (meaning id).charset)
    → IsLawfulTable (length c.collations) table → q.table ≡ Some p
    → slice_get c.tables p ≡ Some table → (found : Option Found) (plan : Plan)
    → plan ≡ plan_of found
    → IfSome found (RejectFound meaning table.columns q.conjuncts table.indexes)
    → LosesNone c meaning q plan
loses_none c meaning q p table l f t e at None plan g r =
    subst (LosesNone c meaning q) (sym g) (scan_loses_none c meaning q)
loses_none c meaning q p table l f t e at (Some found) plan g r =
    subst (LosesNone c meaning q) (sym g)
    (found_loses_none c meaning q p table l f t e at found r)
