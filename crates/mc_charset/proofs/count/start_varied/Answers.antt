use Rattle.mc_charset.proofs.Places.{first_starts}
use Rattle.mc_charset.proofs.count.start_varied.Goals as goal

pub returns-in-Utf8mb3 : goal.returns-in-Utf8mb3
returns-in-Utf8mb3 c =
    let at = c.start_of_first.ensures in
    first_starts c.args.set c.args.text.now c.args.k c.start_of_first.result c.in-Utf8mb3.is c.requires.well_formed
    at.within at.counted at.first at.all
