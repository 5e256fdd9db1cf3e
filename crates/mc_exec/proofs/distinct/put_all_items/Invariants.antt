-- So far the subjects in front of this one have their items.
use Rattle.std.specs.Prelude.{All, ◌||◌, option_map}
use Rattle.std.specs.List.{list_any}
use Rattle.mc_eval.specs.Fit.{has_like}
use Rattle.mc_eval.specs.Outcomes.{IsKept}
use Rattle.mc_exec.specs.Shown.{line_in}
use Rattle.mc_exec.specs.Steps.{GoesOn}
use Rattle.mc_exec.proofs.Filled.{IsFilled}
use Rattle.mc_exec.proofs.distinct.put_all_items.Given as goal

abbrev pub invariant-loop-subject : goal.invariant-loop-subject
invariant-loop-subject g l =
    IsFilled (λ subject. option_map (λ line. line.items)
    (line_in (g.B.Book.meaning l.book) l.q subject)) l.subjects l.initial.rows l.subject-index
    l.rows
    × All (All IsKept) l.rows
    × GoesOn (list_any has_like l.q.items || list_any (λ key. has_like key.expr) l.q.orders)
    l.initial.work l.work
