use Rattle.mc_exec.proofs.NoLike.{operands_like}
use Rattle.mc_exec.proofs.aggregates.like_law.Goals as goal

pub returns : goal.returns
returns c = operands_like c.args.e.now
