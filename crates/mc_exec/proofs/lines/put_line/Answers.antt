-- The items beside the keys.
use Rattle.std.proofs.Common.{◌≡◌, List, None, Some, ap, subst, sym, ◌∙◌}
use Rattle.mc_typing.specs.declared.typed.TypedExpr.{TypedExpr}
use Rattle.mc_typing.specs.declared.typed.TypedOrder.{TypedOrder}
use Rattle.mc_exec.specs.Given.{keys_in, value_in, values_in}
use Rattle.mc_exec.specs.Shown.{line_in}
use Rattle.mc_exec.specs.Steps.{with_all}
use Rattle.mc_exec.proofs.Filled.{fails, keys_filled}
use Rattle.mc_exec.proofs.LineLists.{line_fails, line_told}
use Rattle.mc_exec.proofs.lines.put_line.Goals as goal

pub returns-in-Ok-clause-told : goal.returns-in-Ok-clause-told
returns-in-Ok-clause-told g c =
    let m = g.B.Book.meaning c.args.book.now in
    let q = c.args.q.now in
    let s = c.args.subject.now in
    let items : values_in m q.items s ≡ Some c.put_values.new.values = subst
    (λ (xs : List TypedExpr). values_in m xs s ≡ Some c.put_values.new.values) c.as_slice.ensures
    (keys_filled (value_in m s) c.as_slice.result.now c.args.items.now c.requires.no_items
    (Some c.put_values.new.values) c.in-Ok.ensures.told) in
    line_told (values_in m q.items s) (keys_in m q.orders s) c.put_values.new.values
    c.put_key_values.new.values c.put_key_values.result items
    (with_all (λ (key : TypedOrder). value_in m s key.expr) c.args.keys.now
    c.as_slice-in-Ok.result.now)
    (λ o e. ap (λ (xs : List TypedOrder). keys_in m xs s) (sym c.as_slice-in-Ok.ensures)
    ∙ keys_filled (λ (key : TypedOrder). value_in m s key.expr) c.as_slice-in-Ok.result.now
    c.args.keys.now c.requires.no_keys o e) c.put_key_values.ensures.told

pub returns-in-Err-clause-told : goal.returns-in-Err-clause-told
returns-in-Err-clause-told g c =
    let m = g.B.Book.meaning c.args.book.now in
    let q = c.args.q.now in
    let s = c.args.subject.now in
    fails (with_all (value_in m s) c.args.items.now c.as_slice.result.now) (line_in m q s)
    c.in-Err.fault (λ e. line_fails (values_in m q.items s) (keys_in m q.orders s)
    (ap (λ (xs : List TypedExpr). values_in m xs s) (sym c.as_slice.ensures)
    ∙ keys_filled (value_in m s) c.as_slice.result.now c.args.items.now c.requires.no_items None e))
    c.in-Err.ensures.told
