use Rattle.mc_charset.specs.declared.charset.Charset.TheVariants.{Binary}
use Rattle.mc_order.proofs.ToyTexts.{chars_themselves}
use Rattle.mc_order.proofs.toy.ToyCollation.compare.Goals as goal

pub returns : goal.returns
returns c =
    let decodes = c.chars_law.ensures.decodes Binary in
    rw (
      chars_themselves decodes c.args.a.now c.requires.first,
      chars_themselves decodes c.args.b.now c.requires.second,
    )
    (rw (c.new.ensures, c.new-2.ensures) at c.compare_streams.ensures)
