use Rattle.mc_eval.specs.Node.{place}
use Rattle.mc_eval.specs.Value.{value}
use Rattle.mc_eval.proofs.values.eval.Goals as goal

pub returns-clause-told : goal.returns-clause-told
returns-clause-told g c = c.owned.ensures.told (value (place c.args.row.now c.args.aggregates.now
    (g.B.Book.meaning c.args.book.now)) c.args.e.now) c.operand.ensures.told
