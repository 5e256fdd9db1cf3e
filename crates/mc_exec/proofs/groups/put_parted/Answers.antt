-- As many groups as firsts, and each row in the group of its number.
use Rattle.std.proofs.Common.{◌≡◌, Bor, List, ap, length, map, ◌∙◌}
use Rattle.mc_group.specs.Groups.{firsts, group_numbers, same_row}
use Rattle.mc_values.specs.declared.value.Value.{Value}
use Rattle.mc_exec.specs.Grouped.{parted, value_kinds}
use Rattle.mc_exec.proofs.Firsts.{picked_count}
use Rattle.mc_exec.proofs.Places.{on_ok}
use Rattle.mc_exec.proofs.groups.put_parted.Goals as goal

pub returns : goal.returns
returns g c =
    let m = g.B.Book.meaning c.args.book.now in
    let same = same_row m (value_kinds c.args.exprs.now) in
    let keys = c.args.keys.now in
    let rows = map (λ (r : Bor (List Value)). r.now) c.args.rows.now in
    let numbers = c.as_slice.result.now in
    let is : numbers ≡ group_numbers same keys = c.as_slice.ensures ∙ c.in_ok-numbers.ensures in
    on_ok c.put_by_numbers.result (λ e. e
    ∙ (ap (λ n. parted n numbers rows) (picked_count same
    (c.group_laws.ensures.equivalence m (value_kinds c.args.exprs.now)) keys numbers is)
    ∙ ap (λ ns. parted (length (firsts same keys)) ns rows) is))
    c.put_by_numbers.ensures
