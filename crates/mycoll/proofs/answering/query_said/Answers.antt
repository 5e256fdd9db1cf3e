-- What EXPLAIN's seeks cost, the statement costs.
use Rattle.mycoll.proofs.CostSteps.{explained_within}
use Rattle.mycoll.proofs.answering.query_said.Goals as goal

pub returns-then-q-clause-within : goal.returns-then-q-clause-within
returns-then-q-clause-within g c =
    explained_within c.args.tables.now.catalog (g.B.Book.meaning c.args.book.now) c.args.tables.now.rows c.args.q.now
    c.args.steps.now c.args.work.now c.plan_said.new.work
    c.if-q.true (c.plan_said.ensures.within c.args.steps.now)
