-- So far the rows of the numbers in front of this one are scanned.
use Rattle.std.proofs.Common.{◌+◌, ◌≤◌, [], map}
use Rattle.std.specs.List.{list_any}
use Rattle.mc_eval.specs.Acceptance.{acceptance}
use Rattle.mc_eval.specs.Fit.{has_like}
use Rattle.mc_eval.specs.Node.{place}
use Rattle.mc_eval.specs.Prepared.{prepared_exprs}
use Rattle.mc_gather.specs.IndexLaws.{rows_of}
use Rattle.mc_exec.specs.Steps.{GoesOn}
use Rattle.mc_exec.proofs.Scans.{IsScanned}
use Rattle.mc_exec.proofs.scan.keep_numbered.Given as goal

abbrev pub invariant-loop-number : goal.invariant-loop-number
invariant-loop-number g l =
    IsScanned
    (λ row. acceptance (place row [] (g.B.Book.meaning l.book)) (prepared_exprs l.conjuncts))
    (rows_of l.table l.numbers) (map (λ r. r.now) l.initial.kept) l.number-index
    (map (λ r. r.now) l.kept)
    × GoesOn (list_any has_like (prepared_exprs l.conjuncts)) l.initial.work l.work
    × (l.initial.steps ≤ l.steps) × (l.steps ≤ l.initial.steps + l.number-index)
