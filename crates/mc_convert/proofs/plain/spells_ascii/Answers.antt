use Rattle.mc_convert.proofs.PlainTexts.{spells_ascii}
use Rattle.mc_convert.proofs.plain.spells_ascii.Goals as goal

pub returns-in-Latin1 : goal.returns-in-Latin1
returns-in-Latin1 c = spells_ascii c.chars_law.ensures.decodes c.args.set c.in-Latin1.is
