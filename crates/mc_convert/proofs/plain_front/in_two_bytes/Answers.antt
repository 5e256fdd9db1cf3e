use Rattle.mc_convert.proofs.PlainTexts.{eight_after_one_zero}
use Rattle.mc_convert.proofs.plain_front.in_two_bytes.Goals as goal

pub returns : goal.returns
returns c = eight_after_one_zero c.args.front.now c.told-front
