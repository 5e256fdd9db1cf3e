-- A scan reads all rows, a plan by an index those of the numbers that it has.
use Rattle.std.proofs.Common.{ℕ, None, Some, ap, arith, length, sym, ◌∙◌}
use Rattle.std.specs.Prelude.{Option}
use Rattle.mc_gather.specs.Indexed.{rows_in}
use Rattle.mc_gather.specs.PlanLaws.{seeks}
use Rattle.mc_plan.specs.Entries.{entries}
use Rattle.mc_plan.specs.declared.plan.Plan.{Plan}
use Rattle.mc_exec.specs.Source.{source}
use Rattle.mc_exec.proofs.PlanRows.{no_entries, scan_entries, seeks_by}
use Rattle.mc_exec.proofs.Rows.{rows_are}
use Rattle.mc_exec.proofs.planned.plan_count.Goals as goal

pub returns-in_err-numbers-in-ByIndex-clause-work :
    goal.returns-in_err-numbers-in-ByIndex-clause-work
returns-in_err-numbers-in-ByIndex-clause-work g c =
    let t = c.args.t.now in
    let p = c.in-Some.place in
    let is = seeks_by t.catalog (Some p) c.args.plan.now c.in-ByIndex.index c.in-ByIndex.conjunct
    c.in-ByIndex.intervals c.as_slice.result.now (rows_in t.rows p) c.in-ByIndex.is
    c.as_slice.ensures in
    let all = ap (λ (o : Option ℕ). seeks t.catalog o c.args.plan.now (source t.rows o))
    c.in-Some.is in
    let most = c.plan_rows.ensures.work c.in-ByIndex.conjunct in
    omega (arith, is, all, most)

pub returns-in-Scan-clause-is : goal.returns-in-Scan-clause-is
returns-in-Scan-clause-is g c =
    let t = c.args.t.now in
    let m = g.B.Book.meaning c.args.book.now in
    let p = c.in-Some.place in
    c.len.ensures.is
    ∙ (ap length (sym (rows_are t.rows p c.table.result.now c.table.ensures))
    ∙ (sym (scan_entries t.catalog m p (rows_in t.rows p))
    ∙ (sym (ap (λ (plan : Plan). entries t.catalog m (Some p) plan (rows_in t.rows p)) c.in-Scan.is)
    ∙ sym (ap (λ (o : Option ℕ). entries t.catalog m o c.args.plan.now (source t.rows o))
    c.in-Some.is))))

pub returns-in_ok-numbers-in-ByIndex-clause-work :
    goal.returns-in_ok-numbers-in-ByIndex-clause-work
returns-in_ok-numbers-in-ByIndex-clause-work g c =
    let t = c.args.t.now in
    let p = c.in-Some.place in
    let is = seeks_by t.catalog (Some p) c.args.plan.now c.in-ByIndex.index c.in-ByIndex.conjunct
    c.in-ByIndex.intervals c.as_slice.result.now (rows_in t.rows p) c.in-ByIndex.is
    c.as_slice.ensures in
    let all = ap (λ (o : Option ℕ). seeks t.catalog o c.args.plan.now (source t.rows o))
    c.in-Some.is in
    let most = c.plan_rows.ensures.work c.in-ByIndex.conjunct in
    omega (arith, is, all, most)

pub returns-in-None-clause-is : goal.returns-in-None-clause-is
returns-in-None-clause-is g c =
    let t = c.args.t.now in
    let m = g.B.Book.meaning c.args.book.now in
    sym (ap (λ (o : Option ℕ). entries t.catalog m o c.args.plan.now (source t.rows o)) c.in-None.is
    ∙ no_entries t.catalog m c.args.plan.now (source t.rows None))
