-- The aggregates over a group, and its rows with them.
use Rattle.std.proofs.Common.{◌≡◌, ℕ, Bor, List, None, Some, ap, map, refl, subst, sym, ◌∙◌, ◌||◌}
use Rattle.std.proofs.lemmas.List.Elements.{All-weaker}
use Rattle.std.specs.List.{list_any}
use Rattle.std.specs.Prelude.{All}
use Rattle.mc_eval.specs.Fit.{has_like}
use Rattle.mc_eval.specs.Outcomes.{IsKept}
use Rattle.mc_typing.specs.declared.typed.TypedExpr.{TypedExpr}
use Rattle.mc_values.specs.declared.value.Value.{Value}
use Rattle.mc_exec.specs.Aggregates.{aggregate_over, aggregates_in, aggregates_over}
use Rattle.mc_exec.specs.Given.{all_of}
use Rattle.mc_exec.specs.Ready.{IsAggregable, IsFitAggregate}
use Rattle.mc_exec.specs.Shown.{group_values, line_in, or_one}
use Rattle.mc_exec.specs.Steps.{GoesOn, appended, with_all}
use Rattle.mc_exec.proofs.Filled.{fails, keys_filled}
use Rattle.mc_exec.proofs.KeyRows.{lent}
use Rattle.mc_exec.proofs.ShownRows.{all_of_map}
use Rattle.mc_exec.proofs.Standing.{any_seen, goes_both, goes_first, group_missing, group_told}
use Rattle.mc_exec.proofs.Standing.{group_unchecked, with_these}
use Rattle.mc_exec.proofs.grouped.put_group.Goals as goal

pub put_aggregates-requires-clause-fit : goal.put_aggregates-requires-clause-fit
put_aggregates-requires-clause-fit g c =
    lent (IsFitAggregate (g.B.Book.count c.args.book.now)) c.args.aggregates.now
    (subst (λ (l : List TypedExpr). All (IsFitAggregate (g.B.Book.count c.args.book.now)) l)
    (sym c.requires.aggregates) c.requires.fit_aggregates)

pub put_aggregates-requires-clause-rows : goal.put_aggregates-requires-clause-rows
put_aggregates-requires-clause-rows g c =
    let m = g.B.Book.meaning c.args.book.now in
    lent (IsAggregable m (map (λ (a : Bor TypedExpr). a.now) c.args.aggregates.now)) c.args.rows.now
    (subst (λ (l : List TypedExpr). All (IsAggregable m l)
    (map (λ (r : Bor (List Value)). r.now) c.args.rows.now))
    (sym c.requires.aggregates) c.requires.rows)

pub check_group-requires-clause-rows : goal.check_group-requires-clause-rows
check_group-requires-clause-rows g c =
    let m = g.B.Book.meaning c.args.book.now in
    lent (All IsKept) c.args.rows.now
    (All-weaker (IsAggregable m (aggregates_in c.args.q.now)) (All IsKept) (λ row h. h.kept)
    (map (λ (r : Bor (List Value)). r.now) c.args.rows.now) c.requires.rows)

pub returns-in_ok-push-in-Ok-check_group-clause-told :
    goal.returns-in_ok-push-in-Ok-check_group-clause-told
returns-in_ok-push-in-Ok-check_group-clause-told g c =
    let m = g.B.Book.meaning c.args.book.now in
    let q = c.args.q.now in
    let seen = λ (a : Bor TypedExpr). a.now in
    let rows = map (λ (r : Bor (List Value)). r.now) c.args.rows.now in
    let lines = λ (values : List Value). all_of (λ row. line_in m q (with_these values row))
    (or_one c.args.nulls.now rows) in
    let over : aggregates_over m (aggregates_in q) rows ≡ Some c.put_aggregates.new.values =
    sym (all_of_map seen (aggregate_over m rows) c.args.aggregates.now
    ∙ ap (all_of (aggregate_over m rows)) c.requires.aggregates)
    ∙ keys_filled (λ (a : Bor TypedExpr). aggregate_over m rows a.now) c.args.aggregates.now
    c.new-row.result c.new-row.ensures (Some c.put_aggregates.new.values) c.in-Ok.ensures.told in
    ap (appended c.args.values.now) (group_told lines (aggregates_over m (aggregates_in q) rows)
    c.put_aggregates.new.values over c.in-Ok-check_group.ensures.told)
    ∙ ap (λ l. Some l) (sym c.in_ok-push-in-Ok-check_group.ensures.ok)

pub returns-in-Err-check_group-clause-told : goal.returns-in-Err-check_group-clause-told
returns-in-Err-check_group-clause-told g c =
    let m = g.B.Book.meaning c.args.book.now in
    let q = c.args.q.now in
    let seen = λ (a : Bor TypedExpr). a.now in
    let rows = map (λ (r : Bor (List Value)). r.now) c.args.rows.now in
    let lines = λ (values : List Value). all_of (λ row. line_in m q (with_these values row))
    (or_one c.args.nulls.now rows) in
    let over : aggregates_over m (aggregates_in q) rows ≡ Some c.put_aggregates.new.values =
    sym (all_of_map seen (aggregate_over m rows) c.args.aggregates.now
    ∙ ap (all_of (aggregate_over m rows)) c.requires.aggregates)
    ∙ keys_filled (λ (a : Bor TypedExpr). aggregate_over m rows a.now) c.args.aggregates.now
    c.new-row.result c.new-row.ensures (Some c.put_aggregates.new.values) c.in-Ok.ensures.told in
    fails (lines c.put_aggregates.new.values)
    (appended c.args.values.now (group_values m q c.args.nulls.now rows)) c.in-Err-check_group.fault
    (λ e. ap (appended c.args.values.now) (group_unchecked lines
    (aggregates_over m (aggregates_in q) rows) c.put_aggregates.new.values over e))
    c.in-Err-check_group.ensures.told

pub returns-in-Err-clause-told : goal.returns-in-Err-clause-told
returns-in-Err-clause-told g c =
    let m = g.B.Book.meaning c.args.book.now in
    let q = c.args.q.now in
    let seen = λ (a : Bor TypedExpr). a.now in
    let rows = map (λ (r : Bor (List Value)). r.now) c.args.rows.now in
    let lines = λ (values : List Value). all_of (λ row. line_in m q (with_these values row))
    (or_one c.args.nulls.now rows) in
    let given = λ (a : Bor TypedExpr). aggregate_over m rows a.now in
    fails (with_all given c.new-row.result c.args.aggregates.now)
    (appended c.args.values.now (group_values m q c.args.nulls.now rows)) c.in-Err.fault
    (λ e. ap (appended c.args.values.now) (group_missing lines
    (aggregates_over m (aggregates_in q) rows)
    (sym (all_of_map seen (aggregate_over m rows) c.args.aggregates.now
    ∙ ap (all_of (aggregate_over m rows)) c.requires.aggregates)
    ∙ keys_filled given c.args.aggregates.now c.new-row.result c.new-row.ensures None e)))
    c.in-Err.ensures.told

-- LIKE stands in the aggregates that are lent where it stands in those of the statement.
like_lent : {A : Type 0} (seen : A → TypedExpr) (xs : List A) (all : List TypedExpr) (old new : ℕ)
    → map seen xs ≡ all → GoesOn (list_any (λ x. has_like (seen x)) xs) old new
    → GoesOn (list_any has_like all) old new
like_lent seen xs all old new e h = subst (λ b. GoesOn b old new)
    (any_seen has_like seen xs ∙ ap (list_any has_like) e) h

pub returns-in_err-push-in-Ok-check_group-clause-work :
    goal.returns-in_err-push-in-Ok-check_group-clause-work
returns-in_err-push-in-Ok-check_group-clause-work g c =
    let q = c.args.q.now in
    goes_both (list_any has_like (aggregates_in q))
    (list_any has_like q.items || list_any (λ key. has_like key.expr) q.orders) _ _ _ _ refl
    (like_lent (λ (a : Bor TypedExpr). a.now) c.args.aggregates.now (aggregates_in q) _ _
    c.requires.aggregates c.in-Ok.ensures.work) c.in-Ok-check_group.ensures.work

pub returns-in_ok-push-in-Ok-check_group-clause-work :
    goal.returns-in_ok-push-in-Ok-check_group-clause-work
returns-in_ok-push-in-Ok-check_group-clause-work g c =
    let q = c.args.q.now in
    goes_both (list_any has_like (aggregates_in q))
    (list_any has_like q.items || list_any (λ key. has_like key.expr) q.orders) _ _ _ _ refl
    (like_lent (λ (a : Bor TypedExpr). a.now) c.args.aggregates.now (aggregates_in q) _ _
    c.requires.aggregates c.in-Ok.ensures.work) c.in-Ok-check_group.ensures.work

pub returns-in-Err-check_group-clause-work : goal.returns-in-Err-check_group-clause-work
returns-in-Err-check_group-clause-work g c =
    let q = c.args.q.now in
    goes_both (list_any has_like (aggregates_in q))
    (list_any has_like q.items || list_any (λ key. has_like key.expr) q.orders) _ _ _ _ refl
    (like_lent (λ (a : Bor TypedExpr). a.now) c.args.aggregates.now (aggregates_in q) _ _
    c.requires.aggregates c.in-Ok.ensures.work) c.in-Err-check_group.ensures.work

pub returns-in-Err-clause-work : goal.returns-in-Err-clause-work
returns-in-Err-clause-work g c =
    let q = c.args.q.now in
    goes_first (list_any has_like (aggregates_in q))
    (list_any has_like q.items || list_any (λ key. has_like key.expr) q.orders) _ _ _ refl
    (like_lent (λ (a : Bor TypedExpr). a.now) c.args.aggregates.now (aggregates_in q) _ _
    c.requires.aggregates c.in-Err.ensures.work)
