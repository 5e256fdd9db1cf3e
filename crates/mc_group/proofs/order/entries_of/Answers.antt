use Rattle.mc_group.specs.Fronts.{entry_of}
use Rattle.mc_group.proofs.Lists.{range_push}
use Rattle.mc_group.proofs.order.entries_of.Goals as goal

pub loop-i-preserved : goal.loop-i-preserved
loop-i-preserved g c =
    range_push
    (entry_of c.args.columns.now (g.B.Book.meaning c.args.book.now) c.args.kinds.now
    c.args.keys.now)
    c.loop-i.i c.loop-i.entries.items c.push.new.self.items c.in_ok-entry_of.field-0
    c.loop-i.invariant c.in_ok-entry_of.ensures c.in_ok-push.ensures.items
