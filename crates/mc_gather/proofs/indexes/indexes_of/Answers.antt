use Rattle.std.proofs.Common.{arith}
use Rattle.mc_gather.proofs.Zipped.{as_many}
use Rattle.mc_gather.proofs.Texts.{all_ready}
use Rattle.mc_gather.proofs.indexes.indexes_of.Goals as goal

pub rows_at-requires : goal.rows_at-requires
rows_at-requires g c =
    let len = as_many c.args.c.now c.args.rows.now c.requires.tables in
    omega (arith, len, c.requires.place)

pub put_indexes-requires-clause-ready : goal.put_indexes-requires-clause-ready
put_indexes-requires-clause-ready g c =
    all_ready c.args.c.now (g.B.Book.meaning c.args.book.now) (g.B.Book.count c.args.book.now)
    c.requires.lawful c.requires.fits c.args.rows.now c.requires.tables c.args.place
    c.declared_at-declared.result.now c.rows_at.result.now c.declared_at-declared.ensures
    c.rows_at.ensures
