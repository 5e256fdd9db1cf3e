-- So far the rows in front of this place are scanned.
use Rattle.std.proofs.Common.{◌+◌, ◌≤◌, [], map}
use Rattle.std.specs.List.{list_any}
use Rattle.mc_eval.specs.Acceptance.{acceptance}
use Rattle.mc_eval.specs.Fit.{has_like}
use Rattle.mc_eval.specs.Node.{place}
use Rattle.mc_eval.specs.Prepared.{prepared_exprs}
use Rattle.mc_exec.specs.Steps.{GoesOn}
use Rattle.mc_exec.proofs.Scans.{IsScanned}
use Rattle.mc_exec.proofs.scan.keep_rows.Given as goal

abbrev pub invariant-loop-i : goal.invariant-loop-i
invariant-loop-i g l =
    IsScanned
    (λ row. acceptance (place row [] (g.B.Book.meaning l.book)) (prepared_exprs l.conjuncts))
    l.table (map (λ r. r.now) l.initial.kept) l.i (map (λ r. r.now) l.kept)
    × GoesOn (list_any has_like (prepared_exprs l.conjuncts)) l.initial.work l.work
    × (l.initial.steps ≤ l.steps) × (l.steps ≤ l.initial.steps + l.i)
