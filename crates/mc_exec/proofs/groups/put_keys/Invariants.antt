-- So far the rows in front of this one have their values.
use Rattle.std.specs.Prelude.{All}
use Rattle.std.specs.List.{list_any}
use Rattle.mc_eval.specs.Fit.{has_like}
use Rattle.mc_eval.specs.Outcomes.{IsKept}
use Rattle.mc_exec.specs.Given.{alone, values_in}
use Rattle.mc_exec.specs.Steps.{GoesOn}
use Rattle.mc_exec.proofs.Filled.{IsFilled}
use Rattle.mc_exec.proofs.groups.put_keys.Given as goal

abbrev pub invariant-loop-row : goal.invariant-loop-row
invariant-loop-row g l =
    IsFilled (λ row. values_in (g.B.Book.meaning l.book) l.exprs (alone row.now)) l.rows
    l.initial.keys l.row-index l.keys
    × All (All IsKept) l.keys
    × GoesOn (list_any has_like l.exprs) l.initial.work l.work
