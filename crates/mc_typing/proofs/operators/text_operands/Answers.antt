use Rattle.mc_typing.proofs.Sound.{made_sound}
use Rattle.mc_typing.proofs.operators.text_operands.Goals as goal

pub returns-clause-sound : goal.returns-clause-sound
returns-clause-sound c = made_sound c.args.c.now c.args.xs.now c.operand_list.result
    c.requires.lawful c.requires.typed c.operand_list.ensures
