use Rattle.std.proofs.Common.{refl}
use Rattle.mc_parse.proofs.Statements.{items_read}
use Rattle.mc_parse.proofs.statement.items.Goals as goal

pub returns-in-Ok-clauses-clause-ok : goal.returns-in-Ok-clauses-clause-ok
returns-in-Ok-clauses-clause-ok c =
    items_read _ _ _ c.args.tree.now (record c.args.tree.now { items = c.push_item.new.items }) _
    c.in-None.ensures c.in-Ok-push_item.ensures.ok refl c.in-Ok-clauses.ensures.ok
