-- So far the subjects at the places in front of this one are shown.
use Rattle.std.proofs.Common.{[]}
use Rattle.std.specs.Prelude.{All, slice_index_or}
use Rattle.std.specs.List.{list_any}
use Rattle.mc_eval.specs.Fit.{has_like}
use Rattle.mc_eval.specs.Outcomes.{IsKept}
use Rattle.mc_exec.specs.Given.{alone, values_in}
use Rattle.mc_exec.specs.Steps.{GoesOn}
use Rattle.mc_exec.proofs.Filled.{IsShownSoFar}
use Rattle.mc_exec.proofs.shown.put_all_shown.Given as goal

abbrev pub invariant-loop-n : goal.invariant-loop-n
invariant-loop-n g l =
    IsShownSoFar (λ place. values_in (g.B.Book.meaning l.book) l.items
    (slice_index_or l.subjects place (alone []))) l.limit l.places l.initial.shown l.n l.shown
    × All (All IsKept) l.shown
    × GoesOn (list_any has_like l.items) l.initial.work l.work
