use Rattle.mc_typing.specs.declared.typed.Node.{Node-F}
use Rattle.mc_values.specs.declared.value.Value.TheVariants as value
use Rattle.mc_eval.proofs.Parts.{has_value}
use Rattle.mc_eval.proofs.ReadyForms.{text_well_formed}
use Rattle.mc_eval.proofs.forms.literal_law.Goals as goal

pub returns-clause-is : goal.returns-clause-is
returns-clause-is c = λ p. has_value p c.args.e.now
    (Node-F.Const (value.Str c.args.charset c.args.text.now)) c.requires

pub returns-clause-well_formed : goal.returns-clause-well_formed
returns-clause-well_formed c = λ count h. text_well_formed c.chars_law.ensures.tells count
    c.args.e.now c.args.charset c.args.text.now c.requires h
