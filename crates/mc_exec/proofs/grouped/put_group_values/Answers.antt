-- The groups of rows that can be read, and the aggregates over each.
use Rattle.std.proofs.Common.{◌≡◌, Bor, List, [], Some, ap, map, subst, sym, ◌∙◌}
use Rattle.std.proofs.lemmas.List.Elements.{All-from_recursion, All-weaker}
use Rattle.std.specs.Prelude.{All, Option, option_and_then}
use Rattle.mc_eval.specs.Outcomes.{IsKept}
use Rattle.mc_values.specs.declared.value.Value.{Value}
use Rattle.mc_typing.specs.SoundStatements.{row_types}
use Rattle.mc_typing.specs.declared.typed.TypedExpr.{TypedExpr}
use Rattle.mc_exec.specs.Aggregates.{aggregates_in}
use Rattle.mc_exec.specs.Given.{all_of, alone}
use Rattle.mc_exec.specs.Grouped.{groups_by, value_kinds}
use Rattle.mc_exec.specs.Ready.{GiveKinds, IsAggregable}
use Rattle.mc_exec.specs.Shown.{group_values}
use Rattle.mc_exec.specs.Steps.{IsFit, IsReadable}
use Rattle.mc_exec.specs.Told.{TellsOf}
use Rattle.mc_group.specs.Kinds.{IsInBook}
use Rattle.mc_exec.proofs.Filled.{fails}
use Rattle.mc_exec.proofs.GroupRows.{groups_each}
use Rattle.mc_exec.proofs.KeyRows.{give_kinds, seen_all, value_kinds_in_book}
use Rattle.mc_exec.proofs.SoundParts.{SoundLaws, aggregable, fit_aggregates, fit_statement}
use Rattle.mc_exec.proofs.SoundParts.{groups_work, no_row}
use Rattle.mc_exec.proofs.Places.{on_some}
use Rattle.mc_exec.proofs.grouped.put_group_values.Goals as goal

pub put_groups-requires-clause-fit : goal.put_groups-requires-clause-fit
put_groups-requires-clause-fit g c =
    subst (λ (l : List TypedExpr). All (IsFit (g.B.Book.count c.args.book.now)) l)
    (sym c.as_slice.ensures) (subst (λ n. All (IsFit n) c.args.q.now.groups)
    (sym c.requires.fits.counted) (c.evaluation_law.ensures.all_fit c.args.c.now
    (row_types c.args.c.now c.args.q.now.table) [] c.args.q.now.groups c.requires.sound.groups))

pub put_groups-requires-clause-in_book : goal.put_groups-requires-clause-in_book
put_groups-requires-clause-in_book g c =
    subst (λ (l : List TypedExpr). All (IsInBook (g.B.Book.count c.args.book.now)) (value_kinds l))
    (sym c.as_slice.ensures) (value_kinds_in_book c.sound_law.ensures.typed c.args.c.now _ _
    c.requires.fits (row_types c.args.c.now c.args.q.now.table) [] c.args.q.now.groups
    c.requires.sound.groups)

pub put_groups-requires-clause-rows : goal.put_groups-requires-clause-rows
put_groups-requires-clause-rows g c =
    All-weaker (λ (r : Bor (List Value)). IsReadable c.args.c.now c.args.q.now.table r.now)
    (λ (r : Bor (List Value)). All IsKept r.now) (λ r h. h.kept) c.args.rows.now c.requires.rows

pub put_groups-requires-clause-kinds : goal.put_groups-requires-clause-kinds
put_groups-requires-clause-kinds g c =
    let m = g.B.Book.meaning c.args.book.now in
    let columns = row_types c.args.c.now c.args.q.now.table in
    All-weaker (λ (r : Bor (List Value)). IsReadable c.args.c.now c.args.q.now.table r.now)
    (λ (r : Bor (List Value)). GiveKinds m c.as_slice.result.now (alone r.now))
    (λ r h. subst (λ (l : List TypedExpr). GiveKinds m l (alone r.now)) (sym c.as_slice.ensures)
    (give_kinds c.sound_law.ensures.typed c.evaluation_law.ensures.ty m c.args.c.now _
    c.requires.fits columns [] (alone r.now) h.typed no_row c.args.q.now.groups
    c.requires.sound.groups)) c.args.rows.now c.requires.rows

pub put_values-requires-clause-fit : goal.put_values-requires-clause-fit
put_values-requires-clause-fit g c =
    let laws : SoundLaws = record {
      typed = c.sound_law.ensures.typed;
      types = c.evaluation_law.ensures.ty;
      nodes = c.sound_law.ensures.node;
      parts = c.sound_law.ensures.parts;
      those = c.sound_law.ensures.types;
      over_any = c.sound_law.ensures.any;
      fit = c.evaluation_law.ensures.fits;
      of_type = c.evaluation_law.ensures.of_type;
    } in
    fit_statement laws c.args.c.now _ _ c.requires.fits c.args.q.now c.requires.sound

pub put_values-requires-clause-fit_aggregates : goal.put_values-requires-clause-fit_aggregates
put_values-requires-clause-fit_aggregates g c =
    let laws : SoundLaws = record {
      typed = c.sound_law.ensures.typed;
      types = c.evaluation_law.ensures.ty;
      nodes = c.sound_law.ensures.node;
      parts = c.sound_law.ensures.parts;
      those = c.sound_law.ensures.types;
      over_any = c.sound_law.ensures.any;
      fit = c.evaluation_law.ensures.fits;
      of_type = c.evaluation_law.ensures.of_type;
    } in
    fit_aggregates laws c.args.c.now _ _ c.requires.fits c.args.q.now c.requires.sound

pub put_values-requires-clause-rows : goal.put_values-requires-clause-rows
put_values-requires-clause-rows g c =
    let laws : SoundLaws = record {
      typed = c.sound_law.ensures.typed;
      types = c.evaluation_law.ensures.ty;
      nodes = c.sound_law.ensures.node;
      parts = c.sound_law.ensures.parts;
      those = c.sound_law.ensures.types;
      over_any = c.sound_law.ensures.any;
      fit = c.evaluation_law.ensures.fits;
      of_type = c.evaluation_law.ensures.of_type;
    } in
    let m = g.B.Book.meaning c.args.book.now in
    let q = c.args.q.now in
    let P = IsReadable c.args.c.now q.table in
    let rows = map (λ (r : Bor (List Value)). r.now) c.args.rows.now in
    let is = subst (λ (l : List TypedExpr). groups_by m l rows ≡ Some c.put_groups.new.groups)
    c.as_slice.ensures c.in-Ok.ensures.told in
    All-weaker (All P) (All (IsAggregable m (aggregates_in q)))
    (λ group h. All-weaker P (IsAggregable m (aggregates_in q))
    (λ row k. aggregable laws m c.args.c.now _ c.requires.fits q c.requires.sound row k) group h)
    c.put_groups.new.groups (All-from_recursion (All P) c.put_groups.new.groups
    (groups_each P m q.groups rows c.put_groups.new.groups is
    (seen_all P c.args.rows.now c.requires.rows)))

pub put_values-requires-clause-nulls : goal.put_values-requires-clause-nulls
put_values-requires-clause-nulls g c = c.requires.nulls.kept

pub returns-in-Ok-clause-rows : goal.returns-in-Ok-clause-rows
returns-in-Ok-clause-rows g c =
    let m = g.B.Book.meaning c.args.book.now in
    let q = c.args.q.now in
    let P = IsReadable c.args.c.now q.table in
    let rows = map (λ (r : Bor (List Value)). r.now) c.args.rows.now in
    let is = subst (λ (l : List TypedExpr). groups_by m l rows ≡ Some c.put_groups.new.groups)
    c.as_slice.ensures c.in-Ok.ensures.told in
    on_some c.put_values.result (All-from_recursion (All P) c.put_groups.new.groups
    (groups_each P m q.groups rows c.put_groups.new.groups is
    (seen_all P c.args.rows.now c.requires.rows)))

pub returns-in-Ok-clause-groups : goal.returns-in-Ok-clause-groups
returns-in-Ok-clause-groups g c =
    let m = g.B.Book.meaning c.args.book.now in
    let rows = map (λ (r : Bor (List Value)). r.now) c.args.rows.now in
    on_some c.put_values.result
    (subst (λ (l : List TypedExpr). groups_by m l rows ≡ Some c.put_groups.new.groups)
    c.as_slice.ensures c.in-Ok.ensures.told)

pub returns-in-Ok-clause-told : goal.returns-in-Ok-clause-told
returns-in-Ok-clause-told g c =
    let m = g.B.Book.meaning c.args.book.now in
    let q = c.args.q.now in
    let rows = map (λ (r : Bor (List Value)). r.now) c.args.rows.now in
    let given = group_values m q c.args.nulls.now in
    let is = subst (λ (l : List TypedExpr). groups_by m l rows ≡ Some c.put_groups.new.groups)
    c.as_slice.ensures c.in-Ok.ensures.told in
    subst (λ (o : Option (List (List Value))). TellsOf o c.put_values.new.values
    c.put_values.result)
    (sym (ap (option_and_then (all_of given)) is)) c.put_values.ensures.told

pub returns-in-Err-clause-told : goal.returns-in-Err-clause-told
returns-in-Err-clause-told g c =
    let m = g.B.Book.meaning c.args.book.now in
    let q = c.args.q.now in
    let rows = map (λ (r : Bor (List Value)). r.now) c.args.rows.now in
    let given = group_values m q c.args.nulls.now in
    fails (groups_by m c.as_slice.result.now rows)
    (option_and_then (all_of given) (groups_by m q.groups rows)) c.in-Err.fault
    (λ e. ap (option_and_then (all_of given))
    (ap (λ (l : List TypedExpr). groups_by m l rows) (sym c.as_slice.ensures) ∙ e))
    c.in-Err.ensures.told

pub returns-in-Ok-clause-work : goal.returns-in-Ok-clause-work
returns-in-Ok-clause-work g c =
    let q = c.args.q.now in
    groups_work q c.as_slice.result.now _ _ _ c.as_slice.ensures c.in-Ok.ensures.work
    c.put_values.ensures.work
