use Rattle.std.proofs.Common.{◌≡◌, drop}
use Rattle.mc_eval.specs.Acceptance.{firm}
use Rattle.mc_eval.specs.Node.{place}
use Rattle.mc_eval.specs.Prepared.{prepared_exprs}
use Rattle.mc_eval.specs.Truths.{least, truth}
use Rattle.mc_eval.specs.Value.{value}
use Rattle.mc_eval.proofs.Loops.{LikeLeft, joined}
use Rattle.mc_eval.proofs.prepared.accepted.Given as goal

abbrev pub invariant-loop-conjunct : goal.invariant-loop-conjunct
invariant-loop-conjunct g l =
    let p = place l.row l.aggregates (g.B.Book.meaning l.book) in
    let es = prepared_exprs l.conjuncts in
    record {
      told : least l.so_far (joined (λ e. firm (truth (value p e))) (drop l.conjunct-index es))
          ≡ joined (λ e. firm (truth (value p e))) es;
      work : LikeLeft es l.conjunct-index l.fn.work l.work;
    }
