-- A name is there exactly where a member has it.
use Rattle.std.proofs.Common.{ℕ, List, ap, ◌∙◌}
use Rattle.std.specs.List.{list_any}
use Rattle.std.specs.Str.{bytes_eq}
use Rattle.mc_catalog.proofs.Lists.{any_named}
use Rattle.mc_catalog.proofs.named.Named.has.Goals as goal

pub returns : goal.returns
returns g c =
    let test = λ (other : List ℕ). bytes_eq other c.args.name.now in
    rw (← c.self.view_is) (c.has.ensures ∙ ap (list_any test) c.self.invariant ∙ any_named test g.T.Titled.title c.self.inside.members)
