use Rattle.mc_typing.proofs.Spanless.{alike_told}
use Rattle.mc_typing.proofs.likeness_law.likeness_up_to_spans.Goals as goal

pub returns : goal.returns
returns c = alike_told
