use Rattle.std.proofs.Common.{take}
use Rattle.mc_range.specs.Places.{place_list}
use Rattle.mc_range.proofs.Loops.{alone_best}
use Rattle.mc_range.proofs.ends.best_of_front.Goals as goal

pub returns-clause-list : goal.returns-clause-list
returns-clause-list g c =
    let m = g.C.Collation.meaning c.args.collation.now in
    let weights = c.args.weights.now in
    alone_best m c.args.side (take c.args.front.size weights) c.args.front.behind.now m.tails
    (place_list weights c.args.start) _ _ c.args.front.tail.now c.requires.alone
    c.better-best.ensures.list c.best_of_tails.ensures.list
