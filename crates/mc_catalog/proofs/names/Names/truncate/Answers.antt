-- The first keys have the first names.
use Rattle.std.proofs.Common.{ap, sym, ◌∙◌, map, take}
use Rattle.std.proofs.lemmas.List.{take-map}
use Rattle.mc_catalog.proofs.names.Names.truncate.Goals as goal

pub returns : goal.returns
returns c =
    ap (map (λ name. name.items)) c.truncate.ensures.keys ∙ sym (take-map (λ name. name.items) c.args.len c.self.inside.set.keys)
    ∙ ap (take c.args.len) c.self.view_is
