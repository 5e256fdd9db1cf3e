use Rattle.mc_group.specs.Order.{directed, value_order}
use Rattle.mc_group.proofs.AllNull.{chosen}
use Rattle.mc_group.proofs.extremes.first_place.Goals as goal

pub returns : goal.returns
returns g c =
    chosen (directed c.args.desc (value_order (g.B.Book.meaning c.args.book.now) c.args.kind))
    c.args.values.now c.best_place-best.result c.present_place.result c.best_place-best.ensures
    c.present_place.ensures
