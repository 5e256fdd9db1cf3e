use Rattle.mc_gather.proofs.Gathered.{no_rows}
use Rattle.mc_gather.proofs.indexes.index_by.Goals as goal

pub add_entries-requires-clause-none : goal.add_entries-requires-clause-none
add_entries-requires-clause-none g c =
    no_rows (g.C.Collation.meaning c.args.collation.now) c.args.index.now c.pad.result
    c.space.result c.new-builder.result c.new-builder.ensures c.pad.ensures c.space.ensures
