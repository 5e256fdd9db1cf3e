use Rattle.mc_charset.specs.declared.charset.Charset.TheVariants.{Binary}
use Rattle.mc_order.proofs.ToyTexts.{chars_themselves}
use Rattle.mc_order.proofs.toy.ToyCollation.put_list.Goals as goal

pub returns-clause-ok : goal.returns-clause-ok
returns-clause-ok c =
    rw (chars_themselves (c.chars_law.ensures.decodes Binary) c.args.text.now c.requires)
    (rw (c.new.ensures, c.first_bytes.ensures) at c.put_weights.ensures.ok)
