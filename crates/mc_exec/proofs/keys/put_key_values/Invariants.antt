-- So far the keys in front of this one have their values.
use Rattle.std.specs.Prelude.{All}
use Rattle.mc_eval.specs.Fit.{has_like}
use Rattle.mc_eval.specs.Outcomes.{IsKept}
use Rattle.mc_exec.specs.Given.{value_in}
use Rattle.mc_exec.proofs.Filled.{IsFilled, LikeLeft}
use Rattle.mc_exec.proofs.keys.put_key_values.Given as goal

abbrev pub invariant-loop-key : goal.invariant-loop-key
invariant-loop-key g l =
    IsFilled (λ key. value_in (g.B.Book.meaning l.book) l.subject key.expr) l.orders
    l.initial.values
    l.key-index l.values
    × All IsKept l.values
    × LikeLeft (λ key. has_like key.expr) l.orders l.key-index l.initial.work l.work
