-- What an index of the table has in a plan's intervals are the rows that the plan reads.
use Rattle.std.proofs.Common.{◌≡◌, ℕ, false, List, [], Some, None, length, refl, sym, ap, subst}
use Rattle.std.proofs.Common.{◌∙◌}
use Rattle.std.proofs.lemmas.List.{length-map}
use Rattle.std.specs.List.{filter}
use Rattle.std.specs.Option.{option_map_or}
use Rattle.std.specs.Prelude.{IsSome, IsSomeAnd, Option, option_and_then, option_map, slice_get}
use Rattle.std.specs.Prelude.{slice_index_or, unwrap_or}
use Rattle.mc_catalog.specs.declared.catalog.Catalog.{Catalog}
use Rattle.mc_catalog.specs.declared.catalog.IndexDecl.{IndexDecl}
use Rattle.mc_catalog.specs.declared.catalog.TableDecl.{TableDecl}
use Rattle.mc_index.specs.Entries.{SeenIndex}
use Rattle.mc_key.specs.Laws.{KeptComparesAlike}
use Rattle.mc_order.specs.Meaning.{Meaning}
use Rattle.mc_plan.specs.Entries.{entries, is_entry, is_entry_of}
use Rattle.mc_plan.specs.Plans.{index_collation}
use Rattle.mc_plan.specs.declared.plan.Plan.TheVariants.{ByIndex}
use Rattle.mc_range.specs.declared.interval.Interval.{Interval}
use Rattle.mc_values.specs.declared.value.Value.{Value}
use Rattle.mc_gather.specs.IndexLaws.{rows_of}
use Rattle.mc_gather.specs.Indexed.{AreIndexesOf, IsIndexOf, rows_in}
use Rattle.mc_gather.specs.PlanLaws.{ThroughIsRead}
use Rattle.mc_gather.proofs.FoundRows.{through_found, through_in_table}
use Rattle.mc_gather.proofs.Zipped.{zip_at}

-- The table, if there is one, declares the index.
abbrev IsIn : Option TableDecl → ℕ → Type 0
IsIn o index =
    IsSomeAnd (slice_get (unwrap_or (option_map (λ (t : TableDecl). t.indexes) o) []) index)
    (λ it. IsSome (index_collation (unwrap_or (option_map (λ (t : TableDecl). t.columns) o) []) it))

table_of : (o : Option TableDecl) (index : ℕ) → IsIn o index
    → (table : TableDecl) × (o ≡ Some table)
table_of None index h = absurd h
table_of (Some table) index h = (table, refl)

some_of : {A : Type 0} (o : Option A) → IsSome o → (x : A) × (o ≡ Some x)
some_of None h = absurd (cc)
some_of (Some x) h = (x, refl)

-- The index that is held is one that the table declares.
index_of : (meaning : ℕ → Meaning) (rows : List (List Value)) (table : TableDecl)
    (o : Option (List SeenIndex)) (index : ℕ) (held : SeenIndex)
    → IsSomeAnd o (AreIndexesOf meaning rows table)
    → option_and_then (λ its. slice_get its index) o ≡ Some held
    → (it : IndexDecl) × ((slice_get table.indexes index ≡ Some it)
    × IsIndexOf meaning table.columns rows it held)
index_of meaning rows table None index held h e = absurd h
index_of meaning rows table (Some its) index held h e =
    zip_at (IsIndexOf meaning table.columns rows) table.indexes its h index held e

-- The plan reads the index's entries in the intervals.
reads : (c : Catalog) (meaning : ℕ → Meaning) (place index conjunct : ℕ)
    (intervals : List Interval) (table : TableDecl) (it : IndexDecl) (rows : List (List Value))
    → slice_get c.tables place ≡ Some table → slice_get table.indexes index ≡ Some it
    → filter (is_entry c meaning (Some place) (ByIndex index conjunct intervals)) rows
    ≡ filter (is_entry_of meaning table.columns intervals it) rows
unfolding is_entry
reads c meaning place index conjunct intervals table it rows e f =
    ap (λ (o : Option TableDecl). filter (λ row. option_map_or
    (λ its. is_entry_of meaning (unwrap_or (option_map (λ (t : TableDecl). t.columns) o) [])
    intervals its row)
    (slice_get (unwrap_or (option_map (λ (t : TableDecl). t.indexes) o) []) index) false) rows) e
    ∙ ap (λ (o : Option IndexDecl). filter (λ row. option_map_or
    (λ its. is_entry_of meaning table.columns intervals its row) o false) rows) f

pub through_is_read : KeptComparesAlike → ThroughIsRead
unfolding entries
through_is_read bounds c meaning rows indexes place index conjunct intervals held numbers f d a h =
    let these = rows_in rows place in
    let t = table_of (slice_get c.tables place) index d in
    let table = t.0 in
    let fits = f place table t.1 in
    let i = index_of meaning these table (slice_get indexes place) index held fits a in
    let declared = subst (λ (o : Option TableDecl). IsIn o index) t.1 d in
    let coll = some_of (index_collation table.columns i.0)
    (subst (λ (o : Option IndexDecl). IsSomeAnd o
    (λ it. IsSome (index_collation table.columns it))) i.1.0 declared) in
    let are : rows_of these numbers
    ≡ filter (is_entry c meaning (Some place) (ByIndex index conjunct intervals)) these =
    through_found bounds meaning table.columns these i.0 coll.0 held intervals numbers coll.1
    i.1.1 h
    ∙ sym (reads c meaning place index conjunct intervals table i.0 these t.1 i.1.0) in
    record {
      in_table = through_in_table bounds meaning table.columns these i.0 coll.0 held intervals
          numbers coll.1 i.1.1 h;
      found = are;
      counted = sym (length-map numbers (λ n. slice_index_or these n [])) ∙ ap length are;
    }
