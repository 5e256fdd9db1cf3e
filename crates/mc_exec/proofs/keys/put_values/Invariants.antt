-- So far the expressions in front of this one have their values.
use Rattle.std.specs.Prelude.{All}
use Rattle.mc_eval.specs.Fit.{has_like}
use Rattle.mc_eval.specs.Outcomes.{IsKept}
use Rattle.mc_exec.specs.Given.{value_in}
use Rattle.mc_exec.proofs.Filled.{IsFilled, LikeLeft}
use Rattle.mc_exec.proofs.keys.put_values.Given as goal

abbrev pub invariant-loop-e : goal.invariant-loop-e
invariant-loop-e g l =
    IsFilled (value_in (g.B.Book.meaning l.book) l.subject) l.exprs l.initial.values l.e-index
    l.values
    × All IsKept l.values
    × LikeLeft has_like l.exprs l.e-index l.initial.work l.work
