-- Each aggregate gives what is appended next.
use Rattle.std.proofs.Common.{Bor, List, map}
use Rattle.std.proofs.lemmas.List.Elements.{All-weaker}
use Rattle.std.specs.Prelude.{All}
use Rattle.mc_eval.specs.Fit.{has_like}
use Rattle.mc_eval.specs.Outcomes.{IsKept}
use Rattle.mc_typing.specs.declared.typed.Node.{out-Node}
use Rattle.mc_typing.specs.declared.typed.TypedExpr.{TypedExpr}
use Rattle.mc_values.specs.declared.value.Value.{Value}
use Rattle.mc_exec.specs.Aggregates.{aggregate_over}
use Rattle.mc_exec.specs.Ready.{IsAggregable, NodeGivesKind}
use Rattle.mc_exec.specs.Steps.{appended, with_all}
use Rattle.mc_exec.proofs.Filled.{fails, fill_end, fill_more, fill_none, like_step}
use Rattle.mc_exec.proofs.Rows.{member_seen}
use Rattle.mc_exec.proofs.aggregates.put_aggregates.Goals as goal

pub put_aggregate-requires-clause-rows : goal.put_aggregate-requires-clause-rows
put_aggregate-requires-clause-rows g c =
    let m = g.B.Book.meaning c.args.book.now in
    let all = map (λ (a : Bor TypedExpr). a.now) c.args.aggregates.now in
    All-weaker (λ (r : Bor (List Value)). IsAggregable m all r.now)
    (λ (r : Bor (List Value)). All IsKept r.now) (λ r h. h.kept) c.args.rows.now c.requires.rows

pub put_aggregate-requires-clause-kinds : goal.put_aggregate-requires-clause-kinds
put_aggregate-requires-clause-kinds g c =
    let m = g.B.Book.meaning c.args.book.now in
    let seen = λ (a : Bor TypedExpr). a.now in
    let all = map seen c.args.aggregates.now in
    let it = c.aggregate-item.result in
    All-weaker (λ (r : Bor (List Value)). IsAggregable m all r.now)
    (λ (r : Bor (List Value)). NodeGivesKind m r.now (out-Node it.now.node))
    (λ r h. member_seen (λ a. NodeGivesKind m r.now (out-Node a.node)) seen c.args.aggregates.now
    h.kinds c.loop-aggregate.aggregate-index it c.loop-aggregate-test.true c.aggregate-item.is)
    c.args.rows.now c.requires.rows

pub returns-in-Err-clause-told : goal.returns-in-Err-clause-told
returns-in-Err-clause-told g c =
    let m = g.B.Book.meaning c.args.book.now in
    let rows = map (λ (r : Bor (List Value)). r.now) c.args.rows.now in
    let given = λ (it : Bor TypedExpr). aggregate_over m rows it.now in
    fails (appended c.loop-aggregate.values (given c.aggregate-item.result))
    (with_all given c.args.values.now c.args.aggregates.now) c.in-Err.fault
    (fill_none given c.args.aggregates.now c.args.values.now c.loop-aggregate.aggregate-index
    c.aggregate-item.result c.loop-aggregate.values c.loop-aggregate-test.true c.aggregate-item.is
    c.loop-aggregate.invariant.0) c.in-Err.ensures.told

pub loop-aggregate-preserved : goal.loop-aggregate-preserved
loop-aggregate-preserved g c =
    let m = g.B.Book.meaning c.args.book.now in
    let rows = map (λ (r : Bor (List Value)). r.now) c.args.rows.now in
    let given = λ (it : Bor TypedExpr). aggregate_over m rows it.now in (
      fill_more given c.args.aggregates.now c.args.values.now c.loop-aggregate.aggregate-index
          c.aggregate-item.result c.loop-aggregate.values c.put_aggregate.new.values
          c.loop-aggregate-test.true c.aggregate-item.is c.loop-aggregate.invariant.0
          c.in-Ok.ensures.told,
      c.in-Ok.ensures.kept,
      like_step (λ (it : Bor TypedExpr). has_like it.now) c.args.aggregates.now
          c.loop-aggregate.aggregate-index c.aggregate-item.result _ _ _
          c.loop-aggregate-test.true c.aggregate-item.is c.loop-aggregate.invariant.2
          c.in-Ok.ensures.work,
    )

pub returns-clause-told : goal.returns-clause-told
returns-clause-told g c =
    let m = g.B.Book.meaning c.args.book.now in
    let rows = map (λ (r : Bor (List Value)). r.now) c.args.rows.now in
    let given = λ (it : Bor TypedExpr). aggregate_over m rows it.now in
    fill_end given c.args.aggregates.now c.args.values.now c.loop-aggregate.aggregate-index
    c.loop-aggregate.values c.loop-aggregate-test.false c.loop-aggregate.invariant.0
