use Rattle.mc_coerce.proofs.AnyOrder.{beats_itself, beats_one_way}
use Rattle.mc_coerce.proofs.laws.pair_law.Goals as goal

pub returns : goal.returns
returns c = record { itself = beats_itself; one_way = beats_one_way }
