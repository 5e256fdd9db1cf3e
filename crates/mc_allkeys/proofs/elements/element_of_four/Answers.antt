-- Five parts are no element.
use Rattle.std.proofs.Common.{◌∷◌, sym, ap, ◌∙◌}
use Rattle.mc_allkeys.specs.Listed.{element_of_parts}
use Rattle.mc_allkeys.proofs.ListedLemmas.{five_parts}
use Rattle.mc_allkeys.proofs.elements.element_of_four.Goals as goal

pub returns-in-Some : goal.returns-in-Some
returns-in-Some c =
    sym
    (ap (λ parts. element_of_parts (c.args.first.now ∷ c.args.second.now ∷ c.args.third.now ∷ parts))
    c.in-Some.ensures.parts
    ∙ five_parts c.args.first.now c.args.second.now c.args.third.now c.in-Some.field-0.0.now
    c.in-Some.field-0.1.now)
