use Rattle.mc_typing.proofs.Repertoires.{repertoire_is}
use Rattle.mc_typing.proofs.operands.repertoire_in.Goals as goal

pub returns : goal.returns
returns c = repertoire_is c.args.set c.args.text.now c.repertoire_of.result c.repertoire_of.ensures.least
