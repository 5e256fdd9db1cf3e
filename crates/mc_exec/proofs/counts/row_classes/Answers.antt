-- A number is new where a row is the first of its group.
use Rattle.std.proofs.Common.{◌≡◌, [], ◌∷◌, ◌∙◌}
use Rattle.mc_group.specs.Groups.{group_numbers, same_row}
use Rattle.mc_exec.proofs.Firsts.{picked_count}
use Rattle.mc_exec.proofs.counts.row_classes.Goals as goal

pub returns : goal.returns
returns g c =
    let m = g.B.Book.meaning c.args.book.now in
    let same = same_row m (c.args.kind ∷ []) in
    let is : c.as_slice.result.now ≡ group_numbers same c.args.rows.now =
    c.as_slice.ensures ∙ c.in_ok-numbers.ensures in
    c.group_count.ensures
    ∙ picked_count same (c.group_laws.ensures.equivalence m (c.args.kind ∷ [])) c.args.rows.now
    c.as_slice.result.now is
