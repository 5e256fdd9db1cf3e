use Rattle.mc_gather_tests.proofs.Holding.{held_alike}
use Rattle.mc_gather_tests.proofs.gather_tests.in_indexes.Goals as goal

pub in_index-requires-clause-pad : goal.in_index-requires-clause-pad
in_index-requires-clause-pad g c =
    (held_alike c.args.c.now (g.B.Book.meaning c.args.book.now) c.args.rows.now c.args.indexes.now
    0 c.args.case.now.index c.in_ok-coll.coll (g.B.C.Collation.meaning c.by_id.result.now)
    c.in_ok-index.index.now c.by_id.ensures c.plan_law.ensures.held c.requires
    c.in_ok-coll.ensures c.in_ok-index.ensures).0

pub in_index-requires-clause-space : goal.in_index-requires-clause-space
in_index-requires-clause-space g c =
    (held_alike c.args.c.now (g.B.Book.meaning c.args.book.now) c.args.rows.now c.args.indexes.now
    0 c.args.case.now.index c.in_ok-coll.coll (g.B.C.Collation.meaning c.by_id.result.now)
    c.in_ok-index.index.now c.by_id.ensures c.plan_law.ensures.held c.requires
    c.in_ok-coll.ensures c.in_ok-index.ensures).1
