use Rattle.std.proofs.Common.{arith}
use Rattle.mc_key.proofs.Kept.{one_space_less}
use Rattle.mc_key.proofs.key.len_without_spaces.Goals as goal

pub loop-len-preserved : goal.loop-len-preserved
loop-len-preserved c = (
  omega (arith, c.loop-len.invariant.0),
  one_space_less c.args.space c.loop-len.len c.args.list.now (omega arith)
      c.loop-len.invariant.0 c.if-list-len.false c.loop-len.invariant.1,
)
