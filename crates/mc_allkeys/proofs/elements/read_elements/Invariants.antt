-- What is read stands in front of the elements of the rest.
use Rattle.std.proofs.Common.{length}
use Rattle.mc_allkeys.specs.Listed.{elements_of}
use Rattle.mc_allkeys.proofs.ListedLemmas.{IsFront}
use Rattle.mc_allkeys.proofs.elements.read_elements.Given as goal

abbrev pub invariant-loop-part : goal.invariant-loop-part
invariant-loop-part l = IsFront (elements_of l.text) l.elements (elements_of l.rest)

abbrev pub decreases-loop-part : goal.decreases-loop-part
decreases-loop-part l = length l.rest
