use Rattle.std.proofs.Common.{arith, ◌∙◌}
use Rattle.mc_range.specs.Candidates.{passing_ends}
use Rattle.mc_range.specs.Places.{place_list}
use Rattle.mc_range.proofs.Loops.{begun, end_found, IfOk-weaker}
use Rattle.mc_range.proofs.ends.front_end.Goals as goal

pub returns : goal.returns
returns g c =
    let m = g.C.Collation.meaning c.args.collation.now in
    let weights = c.args.weights.now in
    let floor = m.floor c.args.k in
    let best = place_list weights c.best_of_candidates-best.result in
    IfOk-weaker _ _
    (λ list h. h ∙ end_found m c.args.side floor c.min.result m.tails weights c.args.behind.now best
    (place_list weights c.best_of_passing-best.result) (passing_ends m weights) (omega arith)
    (begun m c.args.side floor c.min.result m.tails weights c.args.behind.now best (omega arith)
    c.best_of_candidates-best.ensures.list)
    c.best_of_passing-best.ensures.list)
    c.joined.result c.joined.ensures
