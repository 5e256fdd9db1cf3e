-- The values of the argument, and what comes of them.
use Rattle.std.proofs.Common.{Bor, List, None, Some, ap, map, subst, sym, ◌∙◌}
use Rattle.std.specs.Prelude.{All, Option, option_and_then}
use Rattle.mc_eval.specs.Outcomes.{IsKept}
use Rattle.mc_group.specs.Kinds.{IsOfKind}
use Rattle.mc_values.specs.declared.value.Value.{Value}
use Rattle.mc_exec.specs.Aggregates.{column_of, combined}
use Rattle.mc_exec.specs.Given.{alone, value_in}
use Rattle.mc_exec.specs.Ordered.{kind_of}
use Rattle.mc_exec.specs.Ready.{GivesKind}
use Rattle.mc_exec.specs.Steps.{with_all}
use Rattle.mc_exec.specs.Told.{Tells}
use Rattle.mc_exec.proofs.Combined.{combined_kept}
use Rattle.mc_exec.proofs.Filled.{fails, keys_filled}
use Rattle.mc_exec.proofs.KeyRows.{each_given}
use Rattle.mc_exec.proofs.ShownRows.{all_of_map}
use Rattle.mc_exec.proofs.aggregates.over_argument.Goals as goal

pub combine-requires-clause-of_kind : goal.combine-requires-clause-of_kind
combine-requires-clause-of_kind g c =
    let m = g.B.Book.meaning c.args.book.now in
    let x = c.args.x.now in
    let kind = c.kind_of.ensures in
    let given = λ (row : Bor (List Value)). value_in m (alone row.now) x in
    subst (λ k. All (IsOfKind m k) c.put_column.new.values) (sym kind)
    (each_given given (λ (row : Bor (List Value)). GivesKind m row.now x) IsKept
    (IsOfKind m (kind_of x.ty)) (λ row it h e k. h it e k) c.args.rows.now c.put_column.new.values
    (keys_filled given c.args.rows.now c.new-values.result c.new-values.ensures
    (Some c.put_column.new.values) c.in-Ok.ensures.told) c.requires.kinds c.in-Ok.ensures.kept)

pub returns-in-Ok-clause-told : goal.returns-in-Ok-clause-told
returns-in-Ok-clause-told g c =
    let m = g.B.Book.meaning c.args.book.now in
    let x = c.args.x.now in
    let given = λ (row : Bor (List Value)). value_in m (alone row.now) x in
    let column = sym (all_of_map (λ (r : Bor (List Value)). r.now) (λ row. value_in m (alone row) x)
    c.args.rows.now) ∙ keys_filled given c.args.rows.now c.new-values.result c.new-values.ensures
    (Some c.put_column.new.values) c.in-Ok.ensures.told in
    subst (λ (o : Option Value). Tells o c.combine.result)
    (ap (λ k. combined m c.args.name c.args.distinct k c.put_column.new.values) c.kind_of.ensures
    ∙ sym (ap (option_and_then (combined m c.args.name c.args.distinct (kind_of x.ty))) column))
    c.combine.ensures

pub returns-in-Ok-clause-kept : goal.returns-in-Ok-clause-kept
returns-in-Ok-clause-kept g c =
    combined_kept (g.B.Book.meaning c.args.book.now) c.args.name c.args.distinct c.kind_of.result
    c.put_column.new.values c.in-Ok.ensures.kept c.combine.result c.combine.ensures

pub returns-clause-told : goal.returns-clause-told
returns-clause-told g c =
    let m = g.B.Book.meaning c.args.book.now in
    let x = c.args.x.now in
    let given = λ (row : Bor (List Value)). value_in m (alone row.now) x in
    let rows = map (λ (r : Bor (List Value)). r.now) c.args.rows.now in
    fails (with_all given c.new-values.result c.args.rows.now)
    (option_and_then (combined m c.args.name c.args.distinct (kind_of x.ty)) (column_of m x rows))
    c.in-Err.fault (λ e. ap (option_and_then (combined m c.args.name c.args.distinct
    (kind_of x.ty)))
    (sym (all_of_map (λ (r : Bor (List Value)). r.now) (λ row. value_in m (alone row) x)
    c.args.rows.now) ∙ keys_filled given c.args.rows.now c.new-values.result c.new-values.ensures
    None e)) c.in-Err.ensures.told
