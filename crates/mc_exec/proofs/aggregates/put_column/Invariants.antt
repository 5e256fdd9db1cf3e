-- So far the rows in front of this one have their values.
use Rattle.std.specs.Prelude.{All}
use Rattle.mc_eval.specs.Fit.{has_like}
use Rattle.mc_eval.specs.Outcomes.{IsKept}
use Rattle.mc_exec.specs.Given.{alone, value_in}
use Rattle.mc_exec.specs.Steps.{GoesOn}
use Rattle.mc_exec.proofs.Filled.{IsFilled}
use Rattle.mc_exec.proofs.aggregates.put_column.Given as goal

abbrev pub invariant-loop-row : goal.invariant-loop-row
invariant-loop-row g l =
    IsFilled (λ row. value_in (g.B.Book.meaning l.book) (alone row.now) l.x) l.rows l.initial.values
    l.row-index l.values
    × All IsKept l.values
    × GoesOn (has_like l.x) l.initial.work l.work
