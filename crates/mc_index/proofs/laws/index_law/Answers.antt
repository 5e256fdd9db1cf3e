use Rattle.mc_index.proofs.Between.{counts_places, none_between, places_between}
use Rattle.mc_index.proofs.laws.index_law.Goals as goal

pub returns-clause-places : goal.returns-clause-places
returns-clause-places c =
    places_between c.order_laws.ensures.total c.args.index.now c.order_law.ensures.ordered

pub returns-clause-counts : goal.returns-clause-counts
returns-clause-counts c =
    counts_places c.order_laws.ensures.total c.args.index.now c.order_law.ensures.ordered

pub returns-clause-none : goal.returns-clause-none
returns-clause-none c =
    none_between c.order_laws.ensures.total c.args.index.now c.order_law.ensures.ordered
