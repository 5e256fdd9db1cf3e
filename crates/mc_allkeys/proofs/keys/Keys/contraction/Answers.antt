use Rattle.mc_allkeys.proofs.EntryLemmas.{contractions_are, keys_len}
use Rattle.mc_allkeys.proofs.keys.Keys.contraction.Goals as goal

pub text-requires : goal.text-requires
text-requires c =
    rw (
      ← c.self.view_is,
      contractions_are c.self.inside.singles c.self.inside.contractions
          c.self.inside.sized,
      keys_len c.self.inside.contractions,
    ) at c.requires

pub returns : goal.returns
returns c =
    rw (
      ← c.self.view_is,
      contractions_are c.self.inside.singles c.self.inside.contractions
          c.self.inside.sized,
    ) c.text.ensures
