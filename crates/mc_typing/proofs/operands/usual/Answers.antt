use Rattle.mc_typing.proofs.Usual.{usual_is}
use Rattle.mc_typing.proofs.operands.usual.Goals as goal

pub returns : goal.returns
returns c = usual_is c.set_names_law.ensures c.args.c.now c.args.set c.default_of.result.0
    c.default_of.ensures
