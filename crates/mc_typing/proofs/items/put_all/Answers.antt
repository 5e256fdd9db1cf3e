use Rattle.std.proofs.Common.{◌≡◌, [], map, rules, subst}
use Rattle.std.specs.Prelude.{Ok, OnOk}
use Rattle.mc_ast.specs.declared.statement.Item.{Item}
use Rattle.mc_typing.specs.Aggregates.{aggregate_count}
use Rattle.mc_typing.specs.Exprs.{plain}
use Rattle.mc_typing.specs.Statements.{behind, own_place, star_columns, star_items}
use Rattle.mc_typing.specs.Walk.{with_operands}
use Rattle.mc_typing.specs.Wanted.{IsLeft}
use Rattle.mc_typing.proofs.Trees.{total_mapped}
use Rattle.mc_typing.proofs.Wholes.{items_left, items_number}
use Rattle.mc_typing.proofs.items.put_all.Goals as goal

pub returns-clause-is : goal.returns-clause-is
returns-clause-is c =
    let statement = c.args.statement.now in
    let columns = star_columns c.args.c.now c.args.s statement.star in
    let star : behind [] (star_items c.args.c.now (own_place statement) statement.groups columns)
    ≡ Ok c.put_star.new.xs = search rules in
    let walked : IsLeft c.put_items.result (c.put_items.new.xs, c.put_items.new.next)
    (with_operands c.args.c.now c.args.s statement.groups (own_place statement) plain
    c.put_star.new.xs 0 (map (λ item. item.expr) statement.items)) = search rules in
    items_left c.args.c.now c.args.s statement.groups (own_place statement)
    (map (λ item. item.expr) statement.items) c.put_items.result
    (star_items c.args.c.now (own_place statement) statement.groups columns) c.put_star.new.xs
    c.put_items.new.xs c.put_items.new.next star walked

pub returns-clause-number : goal.returns-clause-number
returns-clause-number c =
    let statement = c.args.statement.now in
    let walked : IsLeft c.put_items.result (c.put_items.new.xs, c.put_items.new.next)
    (with_operands c.args.c.now c.args.s statement.groups (own_place statement) plain
    c.put_star.new.xs 0 (map (λ item. item.expr) statement.items)) = search rules in
    subst (λ n. OnOk c.put_items.result (c.put_items.new.next ≡ n))
    (total_mapped aggregate_count (λ (item : Item). item.expr) statement.items)
    (items_number c.args.c.now c.args.s statement.groups (own_place statement)
    (map (λ item. item.expr) statement.items) c.put_items.result c.put_star.new.xs
    c.put_items.new.xs c.put_items.new.next walked)
