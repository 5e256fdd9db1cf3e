use Rattle.mc_eval.proofs.Restated.{between_is, in_is, null_is}
use Rattle.mc_eval.proofs.laws.operations_law.Goals as goal

pub returns : goal.returns
returns c = record { between = between_is; in_list = in_is; null = null_is }
