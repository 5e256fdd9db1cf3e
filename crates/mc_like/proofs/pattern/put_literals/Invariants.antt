use Rattle.std.proofs.Common.{◌≡◌, ◌++◌, length}
use Rattle.mc_like.specs.Items.{literal_front}
use Rattle.mc_like.proofs.pattern.put_literals.Given as goal

abbrev pub invariant-loop-item : goal.invariant-loop-item
invariant-loop-item l =
    l.literals ++ literal_front l.left ≡ l.fn.literals ++ literal_front l.items

abbrev pub decreases-loop-item : goal.decreases-loop-item
decreases-loop-item l = length l.left
