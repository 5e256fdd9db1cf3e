-- The rows of one value each, and their groups.
use Rattle.std.proofs.Common.{[], ◌∷◌, List, ap, length, subst, sym, ◌∙◌}
use Rattle.std.specs.Prelude.{All}
use Rattle.mc_group.specs.Groups.{firsts, same_row}
use Rattle.mc_group.specs.Kinds.{IsKeyRow}
use Rattle.mc_values.specs.declared.value.Value.{Value}
use Rattle.mc_exec.specs.Aggregates.{present}
use Rattle.mc_exec.proofs.CountRows.{class_count, value_rows}
use Rattle.mc_exec.proofs.Places.{ok_map}
use Rattle.mc_exec.proofs.counts.class_count.Goals as goal

pub row_classes-requires-clause-key_rows : goal.row_classes-requires-clause-key_rows
row_classes-requires-clause-key_rows g c =
    let m = g.B.Book.meaning c.args.book.now in
    subst (λ (l : List (List Value)). All (IsKeyRow m (c.args.kind ∷ [])) l)
    (sym c.in_ok-put_present.ensures) (value_rows m c.args.kind c.args.values.now
    c.requires.of_kind)

pub returns : goal.returns
returns g c =
    let m = g.B.Book.meaning c.args.book.now in
    let same = same_row m (c.args.kind ∷ []) in
    ok_map _ _ c.row_classes.result (λ count e. e
    ∙ (ap (λ (l : List (List Value)). length (firsts same l)) c.in_ok-put_present.ensures
    ∙ class_count m c.args.kind (present c.args.values.now))) c.row_classes.ensures
