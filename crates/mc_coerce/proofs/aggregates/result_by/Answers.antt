use Rattle.std.proofs.Common.{Some, sym, ap, ◌∙◌}
use Rattle.mc_coerce.proofs.Origins.{elected_at_end}
use Rattle.mc_coerce.proofs.aggregates.result_by.Goals as goal

pub returns-then-decides : goal.returns-then-decides
returns-then-decides c =
    let r = elected_at_end c.args.demand c.args.list.now c.loop-operand.candidate
    c.loop-operand.operand-index c.in_ok-decider.decider c.requires
    c.loop-operand-test.false c.loop-operand.invariant c.in_ok-decider.was in
    ap Some c.result_of.ensures ∙ sym (r.decided (sym c.decides.ensures ∙ c.if-decides.true))

pub returns-else-decides : goal.returns-else-decides
returns-else-decides c =
    let r = elected_at_end c.args.demand c.args.list.now c.loop-operand.candidate
    c.loop-operand.operand-index c.in_ok-decider.decider c.requires
    c.loop-operand-test.false c.loop-operand.invariant c.in_ok-decider.was in
    sym (r.undecided (sym c.decides.ensures ∙ c.if-decides.false))
