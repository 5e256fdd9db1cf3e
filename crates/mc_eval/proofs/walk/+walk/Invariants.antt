use Rattle.std.proofs.Common.{◌≡◌, ◌++◌, drop, map}
use Rattle.std.specs.Prelude.{option_map}
use Rattle.mc_eval.specs.Held.{AreKept, held_values}
use Rattle.mc_eval.specs.Node.{place}
use Rattle.mc_eval.specs.Outcomes.{all_given}
use Rattle.mc_eval.specs.Truths.{least}
use Rattle.mc_eval.specs.Value.{value}
use Rattle.mc_eval.proofs.Loops.{LikeLeft, joined, member}
use Rattle.mc_eval.proofs.walk.+walk.Given as goal

abbrev pub invariant-chain-loop-x : goal.invariant-chain-loop-x
invariant-chain-loop-x g l =
    let p = place l.row l.aggregates (g.B.Book.meaning l.book) in
    record {
      told : least l.so_far (joined (member p l.or) (drop l.x-index l.xs))
          ≡ joined (member p l.or) l.xs;
      work : LikeLeft l.xs l.x-index l.fn.work l.work;
    }

abbrev pub invariant-gather-loop-x : goal.invariant-gather-loop-x
invariant-gather-loop-x g l =
    let p = place l.row l.aggregates (g.B.Book.meaning l.book) in
    record {
      told : option_map (λ values. held_values l.held ++ values)
          (all_given (map (value p) (drop l.x-index l.xs))) ≡ all_given (map (value p) l.xs);
      kept : AreKept l.held;
      work : LikeLeft l.xs l.x-index l.fn.work l.work;
    }
