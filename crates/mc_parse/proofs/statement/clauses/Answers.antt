use Rattle.std.proofs.Common.{refl}
use Rattle.mc_parse.proofs.Statements.{clauses_read}
use Rattle.mc_parse.proofs.statement.clauses.Goals as goal

pub returns-clause-ok : goal.returns-clause-ok
returns-clause-ok c =
    clauses_read c.args.star _ _ _ _ _ c.args.tree.now _
    (record c.args.tree.now { items = c.more_items.new.items }) c.source_option.new.tree
    (record c.source_option.new.tree { orders = c.order_option.new.orders }) _
    c.in_ok-behind.ensures.ok refl c.in_ok-behind-2.ensures.ok c.in_ok-behind-3.ensures.ok refl
    c.in_ok-limit.ensures.ok refl
