-- The weights that were read have two bytes.
use Rattle.std.proofs.Common.{◌<◌, ℕ, get_or}
use Rattle.mc_allkeys.specs.Sound.{HasWeights}
use Rattle.mc_allkeys.specs.declared.element.Element.{Element}
use Rattle.mc_allkeys.proofs.element.read_weights.Given as goal

abbrev pub invariant-loop-element : goal.invariant-loop-element
invariant-loop-element l =
    (k : ℕ) (d : Element) → k < l.element-index → HasWeights (get_or l.elements k d)
