use Rattle.mc_eval.proofs.KeptConstants.{text_kept}
use Rattle.mc_eval.proofs.constants.text_law.Goals as goal

pub returns : goal.returns
returns c = text_kept c.chars_law.ensures.tells c.args.charset c.args.text.now c.requires
