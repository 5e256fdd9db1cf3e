use Rattle.std.proofs.Common.{sym, ◌∙◌}
use Rattle.mc_allkeys.proofs.PlaceLemmas.{len_is}
use Rattle.mc_allkeys.proofs.contractions.Contractions.len.Goals as goal

pub returns : goal.returns
returns c =
    c.len.ensures ∙ c.self.inside.entries.ok.0
    ∙ sym (len_is c.self.inside.entries.items c.args.self.now c.self.inside.sorted c.self.view_is)
