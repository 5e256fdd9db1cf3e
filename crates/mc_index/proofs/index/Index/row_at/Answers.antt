use Rattle.mc_index.proofs.Adding.{row_read}
use Rattle.mc_index.proofs.index.Index.row_at.Goals as goal

pub returns : goal.returns
returns c =
    row_read c.self.inside.pad c.self.inside.space c.self.inside.entries.items c.args.self.now
    c.args.place c.index.result.now c.self.view_is c.requires c.index.ensures
