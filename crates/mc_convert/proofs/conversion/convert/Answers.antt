-- The converted text is the one of the function.
use Rattle.mc_convert.proofs.Texts.{behind_nothing, IsConverted_well_formed}
use Rattle.mc_convert.proofs.conversion.convert.Goals as goal

pub returns-in-Ok-clause-converts : goal.returns-in-Ok-clause-converts
returns-in-Ok-clause-converts c =
    behind_nothing c.args.from c.args.to c.args.text.now c.new-converted.result c.convert_into.new.out
    c.new-converted.ensures c.in-Ok.ensures.ok

pub returns-in-Ok-clause-well_formed : goal.returns-in-Ok-clause-well_formed
returns-in-Ok-clause-well_formed c =
    IsConverted_well_formed c.args.from c.args.to c.args.text.now c.convert_into.new.out
    c.bytes_law.ensures.binary
    (behind_nothing c.args.from c.args.to c.args.text.now c.new-converted.result c.convert_into.new.out
    c.new-converted.ensures c.in-Ok.ensures.ok)
