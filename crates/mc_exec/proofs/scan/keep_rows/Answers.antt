-- Each row that is fetched is the next one of the table.
use Rattle.std.proofs.Common.{List, [], map, arith}
use Rattle.std.specs.List.{list_any}
use Rattle.mc_eval.specs.Acceptance.{acceptance}
use Rattle.mc_eval.specs.Fit.{has_like}
use Rattle.mc_eval.specs.Node.{place}
use Rattle.mc_eval.specs.Prepared.{prepared_exprs}
use Rattle.mc_values.specs.declared.value.Value.{Value}
use Rattle.mc_exec.specs.Steps.{kept_with, with_kept}
use Rattle.mc_exec.proofs.Filled.{fails}
use Rattle.mc_exec.proofs.Scans.{goes_on, scan_end, scan_more, scan_none}
use Rattle.mc_exec.proofs.scan.keep_rows.Goals as goal

pub returns-in-Err-clause-told : goal.returns-in-Err-clause-told
returns-in-Err-clause-told g c =
    let m = g.B.Book.meaning c.args.book.now in
    let accepted = λ (row : List Value).
    acceptance (place row [] m) (prepared_exprs c.args.conjuncts.now) in
    let found = map (λ r. r.now) c.loop-i.kept in
    let first = map (λ r. r.now) c.args.kept.now in
    let row = c.fetch.result.now in
    fails (kept_with (accepted row) found row) (with_kept accepted first c.args.table.now)
    c.in-Err.fault (scan_none accepted c.args.table.now first c.loop-i.i found row
    c.fetch.ensures.row c.loop-i.invariant.0) c.in-Err.ensures.told

pub returns-in-Err-clause-fetched : goal.returns-in-Err-clause-fetched
returns-in-Err-clause-fetched g c = omega (arith, c.fetch.ensures.later, c.loop-i.invariant.2)

pub loop-i-preserved : goal.loop-i-preserved
loop-i-preserved g c =
    let m = g.B.Book.meaning c.args.book.now in
    let accepted = λ (row : List Value).
    acceptance (place row [] m) (prepared_exprs c.args.conjuncts.now) in
    let found = map (λ r. r.now) c.loop-i.kept in
    let more = map (λ r. r.now) c.keep_row.new.kept in
    let first = map (λ r. r.now) c.args.kept.now in
    let row = c.fetch.result.now in (
      scan_more accepted c.args.table.now first c.loop-i.i found more row c.fetch.ensures.row
          c.loop-i.invariant.0 c.in-Ok.ensures.told,
      goes_on (list_any has_like (prepared_exprs c.args.conjuncts.now)) _ _ _
          c.loop-i.invariant.1 c.in-Ok.ensures.work,
      omega (arith, c.fetch.ensures.later, c.loop-i.invariant.2),
      omega (arith, c.fetch.ensures.steps, c.loop-i.invariant.3),
    )

pub returns-clause-told : goal.returns-clause-told
returns-clause-told g c =
    let m = g.B.Book.meaning c.args.book.now in
    let accepted = λ (row : List Value).
    acceptance (place row [] m) (prepared_exprs c.args.conjuncts.now) in
    scan_end accepted c.args.table.now (map (λ r. r.now) c.args.kept.now) c.loop-i.i
    (map (λ r. r.now) c.loop-i.kept) (omega arith) c.loop-i.invariant.0
