use Rattle.std.proofs.Common.{[], ◌∷◌}
use Rattle.mc_allkeys.proofs.EntryLemmas.{get-entries_in}
use Rattle.mc_allkeys.proofs.keys.Keys.single.Goals as goal

pub returns : goal.returns
returns c =
    rw (
      ← c.self.view_is,
      get-entries_in c.self.inside.singles c.self.inside.contractions
          c.self.inside.sized (c.args.c ∷ []),
    ) c.get.ensures
