use Rattle.std.proofs.Common.{ap, sym, ◌∙◌}
use Rattle.std.specs.Option.{option_copied}
use Rattle.mc_typing.proofs.Wholes.{item_utf8}
use Rattle.mc_typing.proofs.orders.order.Goals as goal

pub type_expr-requires-clause-script : goal.type_expr-requires-clause-script
type_expr-requires-clause-script c = item_utf8 c.args.items.now c.args.e.now c.in-Some.item.now
    c.requires.items (sym c.item_expr.ensures ∙ ap option_copied c.in-Some.is)
