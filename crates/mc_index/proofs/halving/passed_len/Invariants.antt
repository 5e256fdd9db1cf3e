-- What is known of the entries in front of and behind the part that is left.
use Rattle.std.proofs.Common.{◌+◌, length}
use Rattle.mc_index.specs.Digits.{binary_digits}
use Rattle.mc_index.specs.Held.{holds_before}
use Rattle.mc_index.proofs.Halves.{IsHalved}
use Rattle.mc_index.proofs.halving.passed_len.Given as goal

abbrev pub invariant-loop-size : goal.invariant-loop-size
invariant-loop-size g l =
    IsHalved (holds_before l.bound l.side) l.entries l.from l.size l.initial.work l.work
    (l.initial.work + binary_digits (length l.entries))

abbrev pub decreases-loop-size : goal.decreases-loop-size
decreases-loop-size g l = l.size
