use Rattle.std.proofs.Common.{length, subst}
use Rattle.mc_gather.specs.Building.{AreBuilt}
use Rattle.mc_gather.proofs.Built.{all_fit, have_indexes}
use Rattle.mc_gather.proofs.indexes.build_indexes.Goals as goal

pub returns-in-Ok-clause-have : goal.returns-in-Ok-clause-have
returns-in-Ok-clause-have g c =
    have_indexes (g.B.Book.meaning c.args.book.now) c.args.c.now c.args.rows.now
    c.put_all_indexes.new.held
    (subst (λ rows. AreBuilt (g.B.Book.meaning c.args.book.now) c.args.c.now rows
    (length c.args.c.now.tables) c.put_all_indexes.new.held) c.as_slice.ensures c.in-Ok.ensures.are)

pub returns-in-Ok-clause-fit : goal.returns-in-Ok-clause-fit
returns-in-Ok-clause-fit g c =
    all_fit (g.B.Book.meaning c.args.book.now) c.args.c.now c.args.rows.now
    c.put_all_indexes.new.held
    (subst (λ rows. AreBuilt (g.B.Book.meaning c.args.book.now) c.args.c.now rows
    (length c.args.c.now.tables) c.put_all_indexes.new.held) c.as_slice.ensures c.in-Ok.ensures.are)
