use Rattle.mc_coerce.proofs.Results.{result_operand, result_known}
use Rattle.mc_coerce.proofs.laws.result_law.Goals as goal

pub returns : goal.returns
returns c = record { operand = result_operand; collation = result_known }
