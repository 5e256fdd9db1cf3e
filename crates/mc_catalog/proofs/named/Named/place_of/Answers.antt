-- The place among the names is that among the members.
use Rattle.std.proofs.Common.{ℕ, List, ap, sym, ◌∙◌, position}
use Rattle.std.specs.Str.{bytes_eq}
use Rattle.mc_catalog.proofs.Lists.{place_of_name}
use Rattle.mc_catalog.proofs.named.Named.place_of.Goals as goal

pub returns-clause-place : goal.returns-clause-place
returns-clause-place g c =
    let test = λ (other : List ℕ). bytes_eq other c.args.name.now in
    rw (← c.self.view_is)
    (c.place_of.ensures.place ∙ ap (position test) c.self.invariant ∙ sym (place_of_name test g.T.Titled.title c.self.inside.members))
