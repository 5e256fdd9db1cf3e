use Rattle.mc_typing.specs.declared.typed.Node.{Node-F}
use Rattle.mc_eval.proofs.Parts.{has_value}
use Rattle.mc_eval.proofs.forms.column_law.Goals as goal

pub returns : goal.returns
returns c = λ p. has_value p c.args.e.now (Node-F.Column c.args.place) c.requires
