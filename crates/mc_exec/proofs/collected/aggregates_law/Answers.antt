use Rattle.mc_exec.proofs.AggregateTrees.{aggregates_are}
use Rattle.mc_exec.proofs.collected.aggregates_law.Goals as goal

pub returns : goal.returns
returns c = aggregates_are c.args.e.now
