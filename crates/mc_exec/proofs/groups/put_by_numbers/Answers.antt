-- As many groups as numbers that are new, and each row in the group of its number.
use Rattle.std.proofs.Common.{Bor, List, [], ap, length, map, sym, ◌∙◌}
use Rattle.mc_values.specs.declared.value.Value.{Value}
use Rattle.mc_exec.specs.Grouped.{parted}
use Rattle.mc_exec.proofs.Parted.{parted_count}
use Rattle.mc_exec.proofs.Places.{on_ok}
use Rattle.mc_exec.proofs.groups.put_by_numbers.Goals as goal

pub put_numbered-requires-clause-opened : goal.put_numbered-requires-clause-opened
put_numbered-requires-clause-opened c =
    let e = c.in_ok-open_groups.ensures in
    e ∙ ap (λ n. parted {R = List Value} n [] []) (sym (ap length e
    ∙ parted_count {R = List Value} c.group_count.result [] []))

pub returns : goal.returns
returns c =
    let rows = map (λ (r : Bor (List Value)). r.now) c.args.rows.now in
    on_ok c.put_numbered.result (λ e. e
    ∙ ap (λ n. parted n c.args.numbers.now rows) (ap length c.in_ok-open_groups.ensures
    ∙ (parted_count {R = List Value} c.group_count.result [] [] ∙ c.group_count.ensures)))
    c.put_numbered.ensures
