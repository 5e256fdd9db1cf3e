use Rattle.mc_strfun.proofs.Joined.{copies_spelled}
use Rattle.mc_strfun.proofs.laws.repeat_law.Goals as goal

pub returns : goal.returns
returns c = copies_spelled c.chars_law.ensures.joins
