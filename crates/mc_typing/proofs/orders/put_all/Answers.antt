use Rattle.std.proofs.Common.{[], rules}
use Rattle.mc_typing.specs.Statements.{items_count, own_place}
use Rattle.mc_typing.specs.Wanted.{IsLeft}
use Rattle.mc_typing.specs.Whole.{with_keys}
use Rattle.mc_typing.proofs.Wholes.{keys_left}
use Rattle.mc_typing.proofs.orders.put_all.Goals as goal

pub returns : goal.returns
returns c =
    let statement = c.args.statement.now in
    let walked : IsLeft c.put_keys.result (c.put_keys.new.keys, c.put_keys.new.next)
    (with_keys c.args.c.now c.args.s statement.groups (own_place statement) statement.items []
    (items_count statement) statement.orders) = search rules in
    keys_left c.args.c.now c.args.s statement.groups (own_place statement) statement.items
    c.put_keys.result c.put_keys.new.keys (items_count statement) c.put_keys.new.next
    statement.orders walked
