-- A part is an element, or none.
use Rattle.std.proofs.Common.{sym, ◌∙◌}
use Rattle.mc_allkeys.specs.Listed.{elements_of}
use Rattle.mc_allkeys.proofs.ListedLemmas.{element_more, element_bad}
use Rattle.mc_allkeys.proofs.elements.read_elements.Goals as goal

pub returns-in_default-element_at-clause-no : goal.returns-in_default-element_at-clause-no
returns-in_default-element_at-clause-no c =
    element_bad (elements_of c.args.text.now) c.loop-part.elements c.loop-part.rest.now c.in-Some.part.now
    c.in-Some.behind.now c.loop-part.invariant c.in-Some.ensures.parts
    (rw c.without_leading.ensures at (sym c.element_at.ensures ∙ c.in_default-element_at.is))

pub loop-part-preserved : goal.loop-part-preserved
loop-part-preserved c =
    rw c.in_ok-push.ensures.ok
    (element_more (elements_of c.args.text.now) c.loop-part.elements c.loop-part.rest.now
    c.in-Some.part.now c.in-Some.behind.now c.in-Some-element_at.element c.loop-part.invariant
    c.in-Some.ensures.parts
    (rw c.without_leading.ensures at (sym c.element_at.ensures ∙ c.in-Some-element_at.is)))
