use Rattle.mc_convert.proofs.Classes.{joined_max}
use Rattle.mc_convert.proofs.repertoire.with_high_char.Goals as goal

pub returns : goal.returns
returns c = λ other. joined_max c.args.class c.class_above_7f.result c.or_above.result other c.args.code (c.class_above_7f.ensures other) c.or_above.ensures
