-- The rows that a plan reads are all of the table's, or those of the numbers that its index has.
use Rattle.std.proofs.Common.{◌≡◌, ◌<◌, ◌≤◌, ◌+◌, ℕ, List, [], Some, ap, map, subst, sym, arith}
use Rattle.std.proofs.Common.{length, ◌∙◌}
use Rattle.std.specs.Prelude.{All, filter}
use Rattle.mc_eval.specs.Acceptance.{acceptance}
use Rattle.mc_eval.specs.Node.{place}
use Rattle.mc_eval.specs.Prepared.{prepared_exprs}
use Rattle.mc_gather.specs.Indexed.{rows_in}
use Rattle.mc_plan.specs.Entries.{entries, is_entry}
use Rattle.mc_plan.specs.declared.plan.Plan.{Plan}
use Rattle.mc_values.specs.declared.value.Value.{Value}
use Rattle.mc_exec.specs.Steps.{with_kept}
use Rattle.mc_exec.specs.Told.{TellsOf}
use Rattle.mc_exec.proofs.PlanRows.{scan_all, scan_entries, seeks_by}
use Rattle.mc_exec.proofs.Rows.{rows_are}
use Rattle.mc_exec.proofs.scan.keep_planned.Goals as goal

pub keep_numbered-requires-clause-numbers : goal.keep_numbered-requires-clause-numbers
keep_numbered-requires-clause-numbers g c =
    let t = c.args.t.now in
    let rows = c.table-table.result.now in
    let read = c.in-Ok.ensures.are 0 in
    subst (λ (l : List ℕ). All (λ number. number < length rows) l) (sym c.as_slice-numbers.ensures)
    (subst (λ (l : List (List Value)). All (λ number. number < length l) c.in-Ok.numbers)
    (rows_are t.rows c.args.table_place rows c.table-table.ensures) read.in_table)

pub returns-in-Scan-clause-told : goal.returns-in-Scan-clause-told
returns-in-Scan-clause-told g c =
    let t = c.args.t.now in
    let m = g.B.Book.meaning c.args.book.now in
    let accepted = λ (row : List Value).
    acceptance (place row [] m) (prepared_exprs c.args.conjuncts.now) in
    let p = c.args.table_place in
    let first = map (λ r. r.now) c.args.kept.now in
    let is : c.table-table.result.now
    ≡ filter (is_entry t.catalog m (Some p) c.args.plan.now) (rows_in t.rows p) =
    sym (rows_are t.rows p c.table-table.result.now c.table-table.ensures)
    ∙ (sym (scan_all t.catalog m (Some p) (rows_in t.rows p))
    ∙ sym (ap (λ (plan : Plan). filter (is_entry t.catalog m (Some p) plan) (rows_in t.rows p))
    c.in-Scan.is)) in
    subst (λ (rows : List (List Value)). TellsOf (with_kept accepted first rows)
    (map (λ r. r.now) c.keep_rows.new.kept) c.keep_rows.result) is c.keep_rows.ensures.told

pub returns-in-Scan-clause-steps : goal.returns-in-Scan-clause-steps
returns-in-Scan-clause-steps g c =
    let t = c.args.t.now in
    let m = g.B.Book.meaning c.args.book.now in
    let p = c.args.table_place in
    let is : length c.table-table.result.now
    ≡ entries t.catalog m (Some p) c.args.plan.now (rows_in t.rows p) =
    ap length (sym (rows_are t.rows p c.table-table.result.now c.table-table.ensures))
    ∙ (sym (scan_entries t.catalog m p (rows_in t.rows p))
    ∙ sym (ap (λ (plan : Plan). entries t.catalog m (Some p) plan (rows_in t.rows p))
    c.in-Scan.is)) in
    subst (λ (n : ℕ). c.keep_rows.new.steps ≤ c.args.steps.now + n) is c.keep_rows.ensures.steps

pub returns-in-Ok-clause-work : goal.returns-in-Ok-clause-work
returns-in-Ok-clause-work g c =
    let t = c.args.t.now in
    let p = c.args.table_place in
    let is = seeks_by t.catalog (Some p) c.args.plan.now c.in-ByIndex.index c.in-ByIndex.conjunct
    c.in-ByIndex.intervals c.as_slice.result.now (rows_in t.rows p) c.in-ByIndex.is
    c.as_slice.ensures in
    let most = c.plan_rows.ensures.work c.in-ByIndex.conjunct in
    record {
      within = λ none.
          let still = c.keep_numbered.ensures.work.still none in omega (arith, is, most, still);
      later = omega (arith, c.plan_rows.ensures.later, c.keep_numbered.ensures.work.later);
    }

pub returns-in-Err-clause-work : goal.returns-in-Err-clause-work
returns-in-Err-clause-work g c =
    let t = c.args.t.now in
    let p = c.args.table_place in
    let is = seeks_by t.catalog (Some p) c.args.plan.now c.in-ByIndex.index c.in-ByIndex.conjunct
    c.in-ByIndex.intervals c.as_slice.result.now (rows_in t.rows p) c.in-ByIndex.is
    c.as_slice.ensures in
    let most = c.plan_rows.ensures.work c.in-ByIndex.conjunct in
    record { within = λ none. omega (arith, is, most); later = c.plan_rows.ensures.later }
