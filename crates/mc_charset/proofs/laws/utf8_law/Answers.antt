use Rattle.mc_charset.proofs.WellFormed.{utf8mb4_from, utf8mb4_to}
use Rattle.mc_charset.proofs.laws.utf8_law.Goals as goal

pub returns : goal.returns
returns c = record { read = utf8mb4_from; written = utf8mb4_to }
