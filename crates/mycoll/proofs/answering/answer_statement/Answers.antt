-- What the tree's answer costs, the statement costs.
use Rattle.mycoll.specs.World.{state_of, world_of}
use Rattle.mycoll.proofs.CostSteps.{tree_spent}
use Rattle.mycoll.proofs.answering.answer_statement.Goals as goal

pub returns-in-Ok-clause-within : goal.returns-in-Ok-clause-within
returns-in-Ok-clause-within g c =
    tree_spent c.outcomes_are_unique.ensures (world_of c.args.tables.now.catalog (g.B.Book.meaning c.args.book.now))
    (state_of c.args.session.now c.args.tables.now.rows) c.args.script.now c.args.statement c.in-Ok.tree
    c.args.steps.now c.tree_said-said.new.steps c.args.work.now c.tree_said-said.new.work
    c.in-Ok.ensures.read c.tree_said-said.ensures.within
