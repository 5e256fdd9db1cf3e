-- So far the rows in front of this one can be evaluated.
use Rattle.std.specs.Prelude.{◌||◌}
use Rattle.std.specs.List.{list_any}
use Rattle.mc_eval.specs.Fit.{has_like}
use Rattle.mc_exec.specs.Shown.{line_in}
use Rattle.mc_exec.specs.Steps.{GoesOn}
use Rattle.mc_exec.proofs.Standing.{IsChecked}
use Rattle.mc_exec.proofs.grouped.check_rows.Given as goal

abbrev pub invariant-loop-row : goal.invariant-loop-row
invariant-loop-row g l =
    IsChecked (λ row. line_in (g.B.Book.meaning l.book) l.q
    (record { row = row.now; aggregates = l.aggregates })) l.rows l.row-index
    × GoesOn (list_any has_like l.q.items || list_any (λ key. has_like key.expr) l.q.orders)
    l.initial.work l.work
