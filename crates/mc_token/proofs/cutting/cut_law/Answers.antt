use Rattle.mc_token.proofs.CutWhole.{cut_is_elements, elements_are_cut}
use Rattle.mc_token.proofs.cutting.cut_law.Goals as goal

pub returns : goal.returns
returns c = record {
  cut = λ bytes parts. (cut_is_elements bytes parts, elements_are_cut bytes parts);
}
