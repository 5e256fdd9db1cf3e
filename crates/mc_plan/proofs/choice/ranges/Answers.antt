use Rattle.mc_plan.proofs.Outside.{found_bounds, found_rejects}
use Rattle.mc_plan.proofs.choice.ranges.Goals as goal

pub returns-clause-rejects : goal.returns-clause-rejects
returns-clause-rejects g c =
    found_rejects (g.B.Book.meaning c.args.book.now) c.args.index.now c.args.coll c.args.e.now _
    c.charset.result c.in_ok-cond.cond c.in_index-found.result c.by_id-collation.ensures
    c.charset.ensures
    c.range_laws.ensures.finds
    (λ p it. c.condition_law.ensures p c.args.index.now.column c.args.coll c.args.e.now it)
    c.in_ok-cond.ensures.is c.in_ok-cond.ensures.of_set c.in_index-found.ensures

pub returns-clause-bounds : goal.returns-clause-bounds
returns-clause-bounds g c =
    let m = g.B.C.Collation.meaning c.by_id-collation.result.now in
    found_bounds m c.args.index.now.prefix c.charset.result c.in_ok-cond.cond
    c.in_index-found.result c.charset.ensures c.range_laws.ensures.bounds
    c.in_ok-cond.ensures.of_set c.in_index-found.ensures
