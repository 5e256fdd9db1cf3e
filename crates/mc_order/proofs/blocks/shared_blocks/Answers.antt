use Rattle.std.proofs.Common.{arith}
use Rattle.mc_order.proofs.BlockSteps.{more_same}
use Rattle.mc_order.proofs.blocks.shared_blocks.Goals as goal

pub loop-at-preserved : goal.loop-at-preserved
loop-at-preserved c = record {
  within_first = omega arith;
  within_second = omega arith;
  same = more_same c.args.a.now c.args.b.now c.loop-at.at _ c.loop-at.invariant.same
      c.if-same_block.ensures;
}
