use Rattle.mc_index.specs.Places.{numbers}
use Rattle.mc_index.proofs.Between.{counted_between}
use Rattle.mc_index.proofs.index.Index.count_in.Goals as goal

pub returns-clause-count : goal.returns-clause-count
returns-clause-count g c =
    counted_between c.order_laws.ensures.total c.args.self.now c.order_law.ensures.ordered
    (numbers c.args.lo) (numbers c.args.hi) c.first_place-first.result c.end_place-end.result
    c.saturating_sub.result c.first_place-first.ensures.place c.end_place-end.ensures.place
    c.saturating_sub.ensures
