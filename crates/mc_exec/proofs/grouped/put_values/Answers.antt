-- The aggregates over all groups, from none on.
use Rattle.mc_exec.specs.Shown.{group_values}
use Rattle.mc_exec.proofs.Standing.{filled_told}
use Rattle.mc_exec.proofs.grouped.put_values.Goals as goal

pub returns-in-Ok-clause-told : goal.returns-in-Ok-clause-told
returns-in-Ok-clause-told g c =
    filled_told (group_values (g.B.Book.meaning c.args.book.now) c.args.q.now c.args.nulls.now)
    c.args.groups.now c.args.values.now c.put_all_groups.new.values c.put_all_groups.result
    c.requires.none c.put_all_groups.ensures.told
