-- The subjects that are picked have the lines that no earlier line has.
use Rattle.std.proofs.Common.{◌≡◌, List, length, ap, subst, sym, ◌∙◌}
use Rattle.std.proofs.lemmas.List.{length-map}
use Rattle.std.proofs.lemmas.List.Elements.{All-from_recursion, recursion_from_All}
use Rattle.std.specs.List.{position_or_len}
use Rattle.std.specs.Prelude.{All, option_map}
use Rattle.mc_group.specs.Groups.{firsts, group_numbers, same_row}
use Rattle.mc_group.specs.Kinds.{IsKeyRow}
use Rattle.mc_typing.specs.declared.typed.TypedExpr.{TypedExpr}
use Rattle.mc_exec.specs.Given.{all_of}
use Rattle.mc_exec.specs.Grouped.{value_kinds}
use Rattle.mc_exec.specs.Ready.{IsShowable}
use Rattle.mc_exec.specs.Shown.{line_in}
use Rattle.mc_exec.specs.Steps.{picked}
use Rattle.mc_exec.proofs.DistinctLines.{distinct_lines}
use Rattle.mc_exec.proofs.Firsts.{picked_each}
use Rattle.mc_exec.proofs.KeyRows.{item_rows}
use Rattle.mc_exec.proofs.Places.{on_ok}
use Rattle.mc_exec.proofs.ShownRows.{count_all}
use Rattle.mc_exec.proofs.distinct.put_firsts.Goals as goal

pub value_numbers-requires-clause-key_rows : goal.value_numbers-requires-clause-key_rows
value_numbers-requires-clause-key_rows g c =
    let m = g.B.Book.meaning c.args.book.now in
    subst (λ (xs : List TypedExpr). All (IsKeyRow m (value_kinds xs)) c.args.rows.now)
    (sym c.as_slice.ensures)
    (item_rows m c.args.q.now c.args.subjects.now c.args.rows.now c.requires.subjects
    c.requires.rows c.requires.kept)

pub put_picked-requires-clause-as_many : goal.put_picked-requires-clause-as_many
put_picked-requires-clause-as_many g c =
    let m = g.B.Book.meaning c.args.book.now in
    let same = same_row m (value_kinds c.as_slice.result.now) in
    let rows = c.args.rows.now in
    ap length (c.as_slice-2.ensures ∙ c.in_ok-numbers.ensures)
    ∙ (length-map rows (λ row. position_or_len (same row) (firsts same rows))
    ∙ count_all (λ s. option_map (λ l. l.items) (line_in m c.args.q.now s)) c.args.subjects.now rows
    c.requires.rows)

pub returns-clause-told : goal.returns-clause-told
returns-clause-told g c =
    let m = g.B.Book.meaning c.args.book.now in
    let q = c.args.q.now in
    let rows = c.args.rows.now in
    let numbers = c.as_slice-2.result.now in
    let is : numbers ≡ group_numbers (same_row m (value_kinds q.items)) rows =
    c.as_slice-2.ensures ∙ (c.in_ok-numbers.ensures
    ∙ ap (λ (xs : List TypedExpr). group_numbers (same_row m (value_kinds xs)) rows)
    c.as_slice.ensures) in
    on_ok c.put_picked.result (λ e. ap (all_of (line_in m q)) e
    ∙ distinct_lines m q (c.group_laws.ensures.equivalence m (value_kinds q.items))
    c.args.subjects.now rows numbers c.requires.rows is) c.put_picked.ensures

pub returns-clause-subjects : goal.returns-clause-subjects
returns-clause-subjects g c =
    let m = g.B.Book.meaning c.args.book.now in
    let P = IsShowable m c.args.q.now in
    let subjects = c.args.subjects.now in
    let numbers = c.as_slice-2.result.now in
    on_ok c.put_picked.result (λ e. subst (All P) (sym e)
    (All-from_recursion P (picked 0 numbers subjects)
    (picked_each P 0 numbers subjects (recursion_from_All P subjects c.requires.subjects))))
    c.put_picked.ensures
