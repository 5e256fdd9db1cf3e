use Rattle.mc_coerce.proofs.Mixes.{compare_mix, text_mix, two_or_more}
use Rattle.mc_coerce.proofs.laws.mix_law.Goals as goal

pub returns : goal.returns
returns c = record { compare = compare_mix; text = text_mix; two_or_more = two_or_more }
