-- What is left has the same bytes behind its leading blanks.
use Rattle.std.proofs.Common.{◌≡◌, length}
use Rattle.mc_base.specs.Blanks.{without_leading}
use Rattle.mc_allkeys.proofs.elements.without_leading.Given as goal

abbrev pub invariant-loop-rest : goal.invariant-loop-rest
invariant-loop-rest l = without_leading l.rest ≡ without_leading l.fn.text

abbrev pub decreases-loop-rest : goal.decreases-loop-rest
decreases-loop-rest l = length l.rest
