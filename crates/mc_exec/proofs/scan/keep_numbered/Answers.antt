-- Each row that is fetched is that of the next number.
use Rattle.std.proofs.Common.{List, [], map, arith}
use Rattle.std.proofs.lemmas.List.{length-map}
use Rattle.std.specs.List.{list_any}
use Rattle.std.specs.Prelude.{slice_index_or}
use Rattle.mc_eval.specs.Acceptance.{acceptance}
use Rattle.mc_eval.specs.Fit.{has_like}
use Rattle.mc_eval.specs.Node.{place}
use Rattle.mc_eval.specs.Prepared.{prepared_exprs}
use Rattle.mc_gather.specs.IndexLaws.{rows_of}
use Rattle.mc_values.specs.declared.value.Value.{Value}
use Rattle.mc_exec.specs.Steps.{kept_with, with_kept}
use Rattle.mc_exec.proofs.Filled.{fails}
use Rattle.mc_exec.proofs.PlanRows.{numbered_get}
use Rattle.mc_exec.proofs.Scans.{goes_on, scan_end, scan_more, scan_none}
use Rattle.mc_exec.proofs.scan.keep_numbered.Goals as goal

pub returns-in-Err-clause-told : goal.returns-in-Err-clause-told
returns-in-Err-clause-told g c =
    let m = g.B.Book.meaning c.args.book.now in
    let accepted = λ (row : List Value).
    acceptance (place row [] m) (prepared_exprs c.args.conjuncts.now) in
    let found = map (λ r. r.now) c.loop-number.kept in
    let first = map (λ r. r.now) c.args.kept.now in
    let row = c.fetch.result.now in
    let rows = rows_of c.args.table.now c.args.numbers.now in
    fails (kept_with (accepted row) found row) (with_kept accepted first rows)
    c.in-Err.fault (scan_none accepted rows first c.loop-number.number-index found row
    (numbered_get c.args.table.now c.args.numbers.now c.loop-number.number-index row
    c.loop-number-test.true c.fetch.ensures.row)
    c.loop-number.invariant.0) c.in-Err.ensures.told

pub returns-in-Err-clause-fetched : goal.returns-in-Err-clause-fetched
returns-in-Err-clause-fetched g c = omega (arith, c.fetch.ensures.later, c.loop-number.invariant.2)

pub loop-number-preserved : goal.loop-number-preserved
loop-number-preserved g c =
    let m = g.B.Book.meaning c.args.book.now in
    let accepted = λ (row : List Value).
    acceptance (place row [] m) (prepared_exprs c.args.conjuncts.now) in
    let found = map (λ r. r.now) c.loop-number.kept in
    let more = map (λ r. r.now) c.keep_row.new.kept in
    let first = map (λ r. r.now) c.args.kept.now in
    let row = c.fetch.result.now in
    let rows = rows_of c.args.table.now c.args.numbers.now in (
      scan_more accepted rows first c.loop-number.number-index found more row
          (numbered_get c.args.table.now c.args.numbers.now c.loop-number.number-index row
          c.loop-number-test.true c.fetch.ensures.row)
          c.loop-number.invariant.0 c.in-Ok.ensures.told,
      goes_on (list_any has_like (prepared_exprs c.args.conjuncts.now)) _ _ _
          c.loop-number.invariant.1 c.in-Ok.ensures.work,
      omega (arith, c.fetch.ensures.later, c.loop-number.invariant.2),
      omega (arith, c.fetch.ensures.steps, c.loop-number.invariant.3),
    )

pub returns-clause-told : goal.returns-clause-told
returns-clause-told g c =
    let m = g.B.Book.meaning c.args.book.now in
    let accepted = λ (row : List Value).
    acceptance (place row [] m) (prepared_exprs c.args.conjuncts.now) in
    let rows = rows_of c.args.table.now c.args.numbers.now in
    let same = length-map c.args.numbers.now (λ n. slice_index_or c.args.table.now n []) in
    scan_end accepted rows (map (λ r. r.now) c.args.kept.now) c.loop-number.number-index
    (map (λ r. r.now) c.loop-number.kept) (omega (arith, same, c.loop-number-test.false))
    c.loop-number.invariant.0
