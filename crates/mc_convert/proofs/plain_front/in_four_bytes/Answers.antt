use Rattle.mc_convert.proofs.PlainTexts.{eight_after_three_zeros}
use Rattle.mc_convert.proofs.plain_front.in_four_bytes.Goals as goal

pub returns : goal.returns
returns c = eight_after_three_zeros c.args.front.now c.told-front
