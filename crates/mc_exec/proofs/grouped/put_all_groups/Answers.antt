-- Each group gives what is appended next.
use Rattle.std.proofs.Common.{◌≡◌, ◌<◌, [], List, Some, arith, get_or, length, subst, sym, ◌||◌}
use Rattle.std.specs.List.{list_any}
use Rattle.std.specs.Prelude.{All}
use Rattle.mc_eval.specs.Fit.{has_like}
use Rattle.mc_values.specs.declared.value.Value.{Value}
use Rattle.mc_exec.specs.Aggregates.{aggregates_in}
use Rattle.mc_exec.specs.Ready.{IsAggregable}
use Rattle.mc_exec.specs.Shown.{group_values}
use Rattle.mc_exec.specs.Steps.{appended, with_all}
use Rattle.mc_exec.specs.Told.{Fails}
use Rattle.mc_exec.proofs.Filled.{at_default, fails, fill_end, fill_more, fill_none}
use Rattle.mc_exec.proofs.Scans.{goes_on}
use Rattle.mc_exec.proofs.grouped.put_all_groups.Goals as goal

pub put_group-requires-clause-rows : goal.put_group-requires-clause-rows
put_group-requires-clause-rows g c =
    let m = g.B.Book.meaning c.args.book.now in
    let h : c.loop-i.i < length c.args.groups.now = omega (
      arith,
      c.len-i-end.ensures,
      c.loop-i-test.true,
    ) in
    subst (λ (l : List (List Value)). All (IsAggregable m (aggregates_in c.args.q.now)) l)
    (sym c.rows.ensures) (c.requires.rows c.loop-i.i [] h)

pub returns-in-Err-clause-told : goal.returns-in-Err-clause-told
returns-in-Err-clause-told g c =
    let m = g.B.Book.meaning c.args.book.now in
    let given = group_values m c.args.q.now c.args.nulls.now in
    let group = get_or c.args.groups.now c.loop-i.i [] in
    let h : c.loop-i.i < length c.args.groups.now = omega (
      arith,
      c.len-i-end.ensures,
      c.loop-i-test.true,
    ) in
    fails (appended c.loop-i.values (given group)) (with_all given c.args.values.now
    c.args.groups.now)
    c.in-Err.fault (fill_none given c.args.groups.now c.args.values.now c.loop-i.i group
    c.loop-i.values h (at_default c.args.groups.now c.loop-i.i [] h)
    c.loop-i.invariant.0)
    (subst (λ (l : List (List Value)). Fails (appended c.loop-i.values (given l)) c.in-Err.fault)
    c.rows.ensures c.in-Err.ensures.told)

pub loop-i-preserved : goal.loop-i-preserved
loop-i-preserved g c =
    let m = g.B.Book.meaning c.args.book.now in
    let q = c.args.q.now in
    let given = group_values m q c.args.nulls.now in
    let group = get_or c.args.groups.now c.loop-i.i [] in
    let h : c.loop-i.i < length c.args.groups.now = omega (
      arith,
      c.len-i-end.ensures,
      c.loop-i-test.true,
    ) in (
      fill_more given c.args.groups.now c.args.values.now c.loop-i.i group c.loop-i.values
          c.put_group.new.values h (at_default c.args.groups.now c.loop-i.i [] h)
          c.loop-i.invariant.0
          (subst (λ (l : List (List Value)). appended c.loop-i.values (given l)
          ≡ Some c.put_group.new.values) c.rows.ensures c.in-Ok.ensures.told),
      c.in-Ok.ensures.kept,
      goes_on (list_any has_like (aggregates_in q) || (list_any has_like q.items
          || list_any (λ key. has_like key.expr) q.orders)) _ _ _ c.loop-i.invariant.2
          c.in-Ok.ensures.work,
    )

pub returns-clause-told : goal.returns-clause-told
returns-clause-told g c =
    let m = g.B.Book.meaning c.args.book.now in
    fill_end (group_values m c.args.q.now c.args.nulls.now) c.args.groups.now c.args.values.now
    c.loop-i.i c.loop-i.values (omega (arith, c.len-i-end.ensures, c.loop-i-test.false))
    c.loop-i.invariant.0
