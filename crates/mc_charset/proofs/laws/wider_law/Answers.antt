use Rattle.mc_charset.proofs.WellFormed.{longer, wider}
use Rattle.mc_charset.proofs.laws.wider_law.Goals as goal

pub returns : goal.returns
returns c = record { utf8mb4 = longer; utf16 = wider }
