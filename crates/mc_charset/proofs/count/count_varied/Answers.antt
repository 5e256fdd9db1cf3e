use Rattle.std.proofs.Common.{◌∙◌}
use Rattle.mc_charset.proofs.FirstBytes.{count_utf8}
use Rattle.mc_charset.proofs.Units.{count_utf16}
use Rattle.mc_charset.proofs.count.count_varied.Goals as goal

pub returns-in-Utf8mb3 : goal.returns-in-Utf8mb3
returns-in-Utf8mb3 c = c.count_firsts.ensures ∙ count_utf8 c.args.set c.args.text.now c.in-Utf8mb3.is c.requires.well_formed

pub returns-in-Utf16 : goal.returns-in-Utf16
returns-in-Utf16 c = c.count_units.ensures ∙ count_utf16 c.args.set c.args.text.now c.in-Utf16.is c.requires.well_formed
