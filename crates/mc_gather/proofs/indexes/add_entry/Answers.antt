use Rattle.mc_gather.proofs.Gathered.{none_added}
use Rattle.mc_gather.proofs.indexes.add_entry.Goals as goal

pub returns-in-None-clause-added : goal.returns-in-None-clause-added
returns-in-None-clause-added g c =
    none_added (g.C.Collation.meaning c.args.collation.now) c.args.index.now c.args.number
    c.args.row.now c.args.builder.now.entries c.in-None.ensures
