-- So far the subjects in front of this one have their keys.
use Rattle.std.specs.Prelude.{All}
use Rattle.std.specs.List.{list_any}
use Rattle.mc_eval.specs.Fit.{has_like}
use Rattle.mc_eval.specs.Outcomes.{IsKept}
use Rattle.mc_exec.specs.Given.{keys_in}
use Rattle.mc_exec.specs.Steps.{GoesOn}
use Rattle.mc_exec.proofs.Filled.{IsFilled}
use Rattle.mc_exec.proofs.keys.put_all_keys.Given as goal

abbrev pub invariant-loop-subject : goal.invariant-loop-subject
invariant-loop-subject g l =
    IsFilled (keys_in (g.B.Book.meaning l.book) l.orders) l.subjects l.initial.keys
    l.subject-index l.keys
    × All (All IsKept) l.keys
    × GoesOn (list_any (λ key. has_like key.expr) l.orders) l.initial.work l.work
