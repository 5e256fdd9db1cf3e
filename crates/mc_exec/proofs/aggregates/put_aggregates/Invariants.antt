-- So far the aggregates in front of this one have their values.
use Rattle.std.specs.Prelude.{All, map}
use Rattle.mc_eval.specs.Fit.{has_like}
use Rattle.mc_eval.specs.Outcomes.{IsKept}
use Rattle.mc_exec.specs.Aggregates.{aggregate_over}
use Rattle.mc_exec.proofs.Filled.{IsFilled, LikeLeft}
use Rattle.mc_exec.proofs.aggregates.put_aggregates.Given as goal

abbrev pub invariant-loop-aggregate : goal.invariant-loop-aggregate
invariant-loop-aggregate g l =
    IsFilled (λ it. aggregate_over (g.B.Book.meaning l.book) (map (λ row. row.now) l.rows) it.now)
    l.aggregates l.initial.values l.aggregate-index l.values
    × All IsKept l.values
    × LikeLeft (λ it. has_like it.now) l.aggregates l.aggregate-index l.initial.work l.work
