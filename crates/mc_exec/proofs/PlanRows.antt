-- The rows that a plan reads.
use Rattle.std.proofs.Common.{◌≡◌, ℕ, ◌<◌, List, [], ◌∷◌, None, Some, refl}
use Rattle.std.proofs.Common.{sym, ap, ◌∙◌, get_or, length}
use Rattle.std.proofs.lemmas.Option.{get_or_from_slice_get, slice_get-get_or, slice_get-map}
use Rattle.std.specs.Prelude.{All, Option, filter, option_map, slice_get, slice_index_or}
use Rattle.mc_catalog.specs.declared.catalog.Catalog.{Catalog}
use Rattle.mc_eval.specs.Acceptance.{acceptance}
use Rattle.mc_eval.specs.Node.{place}
use Rattle.mc_gather.specs.IndexLaws.{rows_of}
use Rattle.mc_gather.specs.Indexed.{rows_in}
use Rattle.mc_gather.specs.PlanLaws.{seeks}
use Rattle.mc_order.specs.Meaning.{Meaning}
use Rattle.mc_plan.specs.Entries.{entries, is_entry}
use Rattle.mc_plan.specs.Rejects.{LosesNone}
use Rattle.mc_plan.specs.declared.plan.Plan.{Plan}
use Rattle.mc_plan.specs.declared.plan.Plan.TheVariants.{Scan, ByIndex}
use Rattle.mc_range.specs.declared.interval.Interval.{Interval}
use Rattle.mc_typing.specs.declared.typed.Typed.{Typed}
use Rattle.mc_values.specs.declared.value.Value.{Value}
use Rattle.mc_exec.specs.FullScan.{kept_rows}
use Rattle.mc_exec.specs.Kept.{kept}
use Rattle.mc_exec.specs.Laws.{IsChosen}
use Rattle.mc_exec.specs.Source.{source}
use Rattle.mc_exec.specs.Steps.{IsReadable}
use Rattle.mc_exec.proofs.Scans.{kept_left}

-- The row of the number at a place is that of the table.
pub numbered_get : (rows : List (List Value)) (numbers : List ℕ) (i : ℕ) (row : List Value)
    → i < length numbers → slice_get rows (get_or numbers i 0) ≡ Some row
    → slice_get (rows_of rows numbers) i ≡ Some row
numbered_get rows numbers i row l h =
    slice_get-map (λ n. slice_index_or rows n []) numbers i
    ∙ ap (option_map (λ n. slice_index_or rows n [])) (slice_get-get_or numbers i 0 l)
    ∙ ap (λ (r : List Value). Some r) (get_or_from_slice_get rows (get_or numbers i 0) row [] h)

-- A scan reads all rows.
pub scan_all : (c : Catalog) (meaning : ℕ → Meaning) (table : Option ℕ) (rows : List (List Value))
    → filter (is_entry c meaning table Scan) rows ≡ rows
unfolding is_entry
scan_all c meaning table [] = refl
scan_all c meaning table (row ∷ rows) = ap (λ l. row ∷ l) (scan_all c meaning table rows)

pub scan_entries : (c : Catalog) (meaning : ℕ → Meaning) (p : ℕ) (rows : List (List Value))
    → entries c meaning (Some p) Scan rows ≡ length rows
unfolding entries
scan_entries c meaning p rows = ap length (scan_all c meaning (Some p) rows)

-- Without a table no row is read.
pub no_entries : (c : Catalog) (meaning : ℕ → Meaning) (plan : Plan) (rows : List (List Value))
    → entries c meaning None plan rows ≡ 0
unfolding entries
no_entries c meaning plan rows = refl

-- What a plan by an index takes to seek.
pub seeks_by : (c : Catalog) (table : Option ℕ) (plan : Plan) (index conjunct : ℕ)
    (intervals others : List Interval) (rows : List (List Value))
    → plan ≡ ByIndex index conjunct intervals → others ≡ intervals
    → seeks c table (ByIndex index conjunct others) rows ≡ seeks c table plan rows
seeks_by c table plan index conjunct intervals others rows e f =
    ap (λ (l : List Interval). seeks c table (ByIndex index conjunct l) rows) f
    ∙ sym (ap (λ (it : Plan). seeks c table it rows) e)

-- The rows that a plan doesn't read are rejected.
pub chosen_rows : (c : Catalog) (meaning : ℕ → Meaning) (q : Typed) (plan : Plan)
    (rows : List (List Value)) → LosesNone c meaning q plan
    → All (IsReadable c q.table) rows
    → All (IsChosen meaning q (is_entry c meaning q.table plan)) rows
chosen_rows c meaning q plan rows loses h =
    λ k d w. loses _ (h k d w).typed

-- So the rows that a plan reads are enough.
pub kept_planned : (c : Catalog) (meaning : ℕ → Meaning) (q : Typed) (plan : Plan)
    (tables : List (List (List Value))) (p : ℕ) → q.table ≡ Some p → LosesNone c meaning q plan
    → All (IsReadable c q.table) (source tables q.table)
    → kept (λ row. acceptance (place row [] meaning) q.conjuncts)
    (filter (is_entry c meaning (Some p) plan) (rows_in tables p))
    ≡ kept_rows meaning q (source tables q.table)
kept_planned c meaning q plan tables p e loses h =
    let accepted = λ (row : List Value). acceptance (place row [] meaning) q.conjuncts in
    ap (λ (o : Option ℕ). kept accepted (filter (is_entry c meaning o plan) (source tables o)))
    (sym e) ∙ kept_left accepted (is_entry c meaning q.table plan) (source tables q.table)
    (chosen_rows c meaning q plan (source tables q.table) loses h)
