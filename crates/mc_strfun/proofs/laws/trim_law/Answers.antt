use Rattle.mc_strfun.proofs.LeftOver.{left_behind, left_before}
use Rattle.mc_strfun.proofs.laws.trim_law.Goals as goal

pub returns : goal.returns
returns c = record { leading = left_behind; trailing = left_before }
