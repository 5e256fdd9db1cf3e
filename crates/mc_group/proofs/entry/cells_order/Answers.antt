use Rattle.mc_group.proofs.Cells.{decided, passed}
use Rattle.mc_group.proofs.entry.cells_order.Goals as goal

pub returns-in_default : goal.returns-in_default
returns-in_default c =
    decided c.args.columns.now c.args.one.now c.args.other.now c.loop-i.i _ c.order_at.result _
    c.loop-i-test.true c.loop-i.invariant c.order_at.ensures c.in_default.not-Equal

pub loop-i-preserved : goal.loop-i-preserved
loop-i-preserved c =
    passed c.args.columns.now c.args.one.now c.args.other.now c.loop-i.i _ _ c.loop-i-test.true
    c.loop-i.invariant c.in-Equal.ensures
