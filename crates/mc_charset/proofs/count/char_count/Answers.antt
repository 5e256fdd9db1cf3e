use Rattle.mc_charset.proofs.Start.{count_wide}
use Rattle.mc_charset.proofs.count.char_count.Goals as goal

pub returns-in-Some : goal.returns-in-Some
returns-in-Some c =
    let w = c.in-Some.ensures in
    count_wide c.args.set c.in-Some.width c.args.text.now w.0 w.2 c.requires.well_formed
