use Rattle.std.proofs.Common.{◌≡◌, drop}
use Rattle.mc_eval.specs.Acceptance.{firm}
use Rattle.mc_eval.specs.Node.{place}
use Rattle.mc_eval.specs.Truths.{least, truth}
use Rattle.mc_eval.specs.Value.{value}
use Rattle.mc_eval.proofs.Loops.{LikeLeft, joined}
use Rattle.mc_eval.proofs.values.accepted.Given as goal

abbrev pub invariant-loop-e : goal.invariant-loop-e
invariant-loop-e g l =
    let p = place l.row l.aggregates (g.B.Book.meaning l.book) in
    record {
      told : least l.so_far (joined (λ e. firm (truth (value p e))) (drop l.e-index l.conjuncts))
          ≡ joined (λ e. firm (truth (value p e))) l.conjuncts;
      work : LikeLeft l.conjuncts l.e-index l.fn.work l.work;
    }
