use Rattle.mc_allkeys.proofs.EntryLemmas.{contractions_are, keys_len}
use Rattle.mc_allkeys.proofs.keys.Keys.contraction_count.Goals as goal

pub returns : goal.returns
returns c =
    rw (
      ← c.self.view_is,
      contractions_are c.self.inside.singles c.self.inside.contractions
          c.self.inside.sized,
      keys_len c.self.inside.contractions,
    ) c.len.ensures
