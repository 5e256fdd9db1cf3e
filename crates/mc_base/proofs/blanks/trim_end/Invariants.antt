-- What is left has the same bytes before its trailing blanks.
use Rattle.std.proofs.Common.{◌≡◌, length}
use Rattle.mc_base.specs.Blanks.{without_trailing}
use Rattle.mc_base.proofs.blanks.trim_end.Given as goal

abbrev pub invariant-loop-rest : goal.invariant-loop-rest
invariant-loop-rest l = without_trailing l.rest ≡ without_trailing l.fn.bytes

abbrev pub decreases-loop-rest : goal.decreases-loop-rest
decreases-loop-rest l = length l.rest
