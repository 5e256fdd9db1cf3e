-- What stands for the groups, and what is shown of it.
use Rattle.std.proofs.Common.{Bor, List, ap, map, subst, sym, ◌∙◌, true}
use Rattle.std.proofs.lemmas.List.Elements.{All-from_recursion, recursion_from_All}
use Rattle.std.specs.List.{zip}
use Rattle.std.specs.Prelude.{All, Option, option_and_then, option_map}
use Rattle.mc_eval.specs.Outcomes.{IsKept}
use Rattle.mc_values.specs.declared.value.Value.{Value}
use Rattle.mc_exec.specs.FullScan.{finish}
use Rattle.mc_exec.specs.Given.{all_of}
use Rattle.mc_exec.specs.Grouped.{groups_by}
use Rattle.mc_exec.specs.Ready.{IsShowable}
use Rattle.mc_exec.specs.Shown.{group_values, shown_of, standing, subjects_of}
use Rattle.mc_exec.specs.Steps.{IsReadable}
use Rattle.mc_exec.specs.Told.{TellsOf}
use Rattle.mc_exec.proofs.Filled.{fails}
use Rattle.mc_exec.proofs.ShownRows.{count_all}
use Rattle.mc_exec.proofs.SoundParts.{SoundLaws, fit_statement, items_work, nulls_readable}
use Rattle.mc_exec.proofs.SoundParts.{standing_showable}
use Rattle.mc_exec.proofs.Standing.{all_zipped, goes_twice, stand_none}
use Rattle.mc_exec.proofs.grouped.put_grouped.Goals as goal

pub put_group_values-requires-clause-nulls : goal.put_group_values-requires-clause-nulls
put_group_values-requires-clause-nulls g c =
    nulls_readable c.args.c.now c.args.q.now.table c.args.nulls.now c.requires.nulls

pub put_stood-requires-clause-fit : goal.put_stood-requires-clause-fit
put_stood-requires-clause-fit g c =
    let laws : SoundLaws = record {
      typed = c.sound_law.ensures.typed;
      types = c.evaluation_law.ensures.ty;
      nodes = c.sound_law.ensures.node;
      parts = c.sound_law.ensures.parts;
      those = c.sound_law.ensures.types;
      over_any = c.sound_law.ensures.any;
      fit = c.evaluation_law.ensures.fits;
      of_type = c.evaluation_law.ensures.of_type;
    } in
    fit_statement laws c.args.c.now _ _ c.requires.fits c.args.q.now c.requires.sound

pub put_stood-requires-clause-as_many : goal.put_stood-requires-clause-as_many
put_stood-requires-clause-as_many g c =
    let m = g.B.Book.meaning c.args.book.now in
    let given = group_values m c.args.q.now c.args.nulls.now in
    let is = sym (ap (option_and_then (all_of given)) c.in-Ok.ensures.groups)
    ∙ c.in-Ok.ensures.told in
    count_all given c.put_group_values.new.groups c.put_group_values.new.values is

pub put_stood-requires-clause-subjects : goal.put_stood-requires-clause-subjects
put_stood-requires-clause-subjects g c =
    let laws : SoundLaws = record {
      typed = c.sound_law.ensures.typed;
      types = c.evaluation_law.ensures.ty;
      nodes = c.sound_law.ensures.node;
      parts = c.sound_law.ensures.parts;
      those = c.sound_law.ensures.types;
      over_any = c.sound_law.ensures.any;
      fit = c.evaluation_law.ensures.fits;
      of_type = c.evaluation_law.ensures.of_type;
    } in
    let m = g.B.Book.meaning c.args.book.now in
    let q = c.args.q.now in
    let given = group_values m q c.args.nulls.now in
    let groups = c.put_group_values.new.groups in
    let values = c.put_group_values.new.values in
    let is = sym (ap (option_and_then (all_of given)) c.in-Ok.ensures.groups)
    ∙ c.in-Ok.ensures.told in
    All-from_recursion (IsShowable m q)
    (map (λ it. standing c.args.nulls.now it.0 it.1) (zip groups values))
    (standing_showable laws m c.args.c.now _ c.requires.fits q c.requires.sound c.args.nulls.now
    (nulls_readable c.args.c.now q.table c.args.nulls.now c.requires.nulls) groups values is
    (recursion_from_All (All (IsReadable c.args.c.now q.table)) groups c.in-Ok.ensures.rows)
    (recursion_from_All (All IsKept) values c.in-Ok.ensures.kept))

pub returns-in-Ok-clause-told : goal.returns-in-Ok-clause-told
returns-in-Ok-clause-told g c =
    let m = g.B.Book.meaning c.args.book.now in
    let q = c.args.q.now in
    let nulls = c.args.nulls.now in
    let given = group_values m q nulls in
    let groups = c.put_group_values.new.groups in
    let values = c.put_group_values.new.values in
    let rows = map (λ (r : Bor (List Value)). r.now) c.args.rows.now in
    let is = sym (ap (option_and_then (all_of given)) c.in-Ok.ensures.groups)
    ∙ c.in-Ok.ensures.told in
    let subjects = ap (λ n. option_and_then (all_of (shown_of m q n)) (groups_by m q.groups rows))
    (sym c.requires.nulls)
    ∙ (ap (option_and_then (all_of (shown_of m q nulls))) c.in-Ok.ensures.groups
    ∙ (all_zipped (standing nulls) given groups
    ∙ ap (option_map (λ (ys : List (List Value)). map (λ p. standing nulls p.0 p.1)
    (zip groups ys))) is)) in
    subst (λ (o : Option (List (List Value))). TellsOf o c.put_stood.new.shown c.put_stood.result)
    (sym (ap (option_and_then (finish m q)) subjects)) c.put_stood.ensures.told

pub returns-clause-told : goal.returns-clause-told
returns-clause-told g c =
    let m = g.B.Book.meaning c.args.book.now in
    let q = c.args.q.now in
    let nulls = c.args.nulls.now in
    let given = group_values m q nulls in
    let rows = map (λ (r : Bor (List Value)). r.now) c.args.rows.now in
    fails (option_and_then (all_of given) (groups_by m q.groups rows))
    (option_and_then (finish m q) (subjects_of c.args.c.now m q true rows)) c.in-Err.fault
    (λ e. ap (option_and_then (finish m q))
    (ap (λ n. option_and_then (all_of (shown_of m q n)) (groups_by m q.groups rows))
    (sym c.requires.nulls) ∙ stand_none nulls given (groups_by m q.groups rows) e))
    c.in-Err.ensures.told

pub returns-in-Ok-clause-work : goal.returns-in-Ok-clause-work
returns-in-Ok-clause-work g c = goes_twice _ _ _ _ c.in-Ok.ensures.work
    (items_work c.args.q.now _ _ c.put_stood.ensures.work)
