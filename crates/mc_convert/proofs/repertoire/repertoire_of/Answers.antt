use Rattle.mc_convert.proofs.Repertoires.{repertoire_is}
use Rattle.mc_convert.proofs.repertoire.repertoire_of.Goals as goal

pub returns-clause-is : goal.returns-clause-is
returns-clause-is c = repertoire_is c.args.set c.args.text.now c.class_in.result c.class_in.ensures
