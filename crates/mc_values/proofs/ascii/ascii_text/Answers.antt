-- ASCII characters are the same in each set.
use Rattle.std.proofs.Common.{refl}
use Rattle.std.proofs.lemmas.Result.{IfOk-weaker}
use Rattle.mc_charset.specs.declared.charset.Charset.TheVariants.{Utf8mb4}
use Rattle.mc_values.proofs.Digits.{ascii_in, ascii_spelled, at_most_four}
use Rattle.mc_values.proofs.ascii.ascii_text.Goals as goal

pub convert-requires : goal.convert-requires
convert-requires c =
    (c.args.text.now, ascii_spelled Utf8mb4 c.args.text.now refl c.requires)

pub returns-clause-spells : goal.returns-clause-spells
returns-clause-spells c =
    IfOk-weaker c.convert.result _ _
    (λ text h. ascii_in c.chars_law.ensures.decodes c.args.set _ text c.requires h)
    c.convert.ensures.converts

pub returns-clause-short : goal.returns-clause-short
returns-clause-short c =
    IfOk-weaker c.convert.result _ _
    (λ text h. at_most_four c.args.set _ text c.requires
    (ascii_in c.chars_law.ensures.decodes c.args.set _ text c.requires h))
    c.convert.ensures.converts
