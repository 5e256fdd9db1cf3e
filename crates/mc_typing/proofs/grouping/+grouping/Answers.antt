-- An aggregate stands in an expression where its form is one, or where one stands in an operand.
use Rattle.std.proofs.Common.{sym, ◌∙◌}
use Rattle.mc_typing.proofs.Grouped.{has_aggregate_is, or_else, or_then}
use Rattle.mc_typing.proofs.grouping.+grouping.Goals as goal

pub has_aggregate-returns-then-is_aggregate_form : goal.has_aggregate-returns-then-is_aggregate_form
has_aggregate-returns-then-is_aggregate_form t c =
    or_then c.is_aggregate_form.result _ _ c.is_aggregate_form.ensures c.if-is_aggregate_form.true
    ∙ sym (has_aggregate_is c.args.e.now)

pub has_aggregate-returns-else-is_aggregate_form : goal.has_aggregate-returns-else-is_aggregate_form
has_aggregate-returns-else-is_aggregate_form t c =
    or_else c.is_aggregate_form.result _ c.in_operands.result _ c.is_aggregate_form.ensures
    c.if-is_aggregate_form.false c.in_operands.ensures
    ∙ sym (has_aggregate_is c.args.e.now)
