-- A group without rows is evaluated in one of NULLs.
use Rattle.std.proofs.Common.{◌∷◌, [], Bor, List, length, map}
use Rattle.mc_values.specs.declared.value.Value.{Value}
use Rattle.mc_exec.specs.Shown.{line_in, or_one}
use Rattle.mc_exec.proofs.Standing.{finds_lent, is_zero, not_zero, or_none, or_some}
use Rattle.mc_exec.proofs.Standing.{with_these}
use Rattle.mc_exec.proofs.grouped.check_group.Goals as goal

pub returns-then-is_empty-clause-told : goal.returns-then-is_empty-clause-told
returns-then-is_empty-clause-told g c =
    let m = g.B.Book.meaning c.args.book.now in
    let seen = λ (r : Bor (List Value)). r.now in
    let given = λ (row : List Value). line_in m c.args.q.now
    (with_these c.args.aggregates.now row) in
    finds_lent seen given (c.args.nulls ∷ [])
    (or_one c.args.nulls.now (map seen c.args.rows.now))
    (or_none seen c.args.nulls.now c.args.rows.now
    (is_zero (length c.args.rows.now) c.is_empty.result c.is_empty.ensures c.if-is_empty.true))
    c.check_rows.result c.check_rows.ensures.told

pub returns-else-is_empty-clause-told : goal.returns-else-is_empty-clause-told
returns-else-is_empty-clause-told g c =
    let m = g.B.Book.meaning c.args.book.now in
    let seen = λ (r : Bor (List Value)). r.now in
    let given = λ (row : List Value). line_in m c.args.q.now
    (with_these c.args.aggregates.now row) in
    finds_lent seen given c.args.rows.now
    (or_one c.args.nulls.now (map seen c.args.rows.now))
    (or_some seen c.args.nulls.now c.args.rows.now
    (not_zero (length c.args.rows.now) c.is_empty.result c.is_empty.ensures c.if-is_empty.false))
    c.check_rows-else-is_empty.result c.check_rows-else-is_empty.ensures.told
