-- The keys of the subjects, and what is shown in their order.
use Rattle.std.proofs.Common.{◌≡◌, List, Some, None, ap, subst, sym, ◌∙◌}
use Rattle.std.specs.Prelude.{option_map}
use Rattle.mc_typing.specs.declared.typed.TypedOrder.{TypedOrder}
use Rattle.mc_exec.specs.FullScan.{arranged}
use Rattle.std.proofs.lemmas.List.Elements.{All-weaker}
use Rattle.mc_exec.specs.Ready.{IsKeptSubject, IsShowable}
use Rattle.mc_exec.specs.Given.{all_of, keys_in, keys_of, values_in}
use Rattle.mc_exec.specs.Shown.{line_in}
use Rattle.mc_exec.specs.Steps.{with_all}
use Rattle.mc_exec.proofs.Filled.{fails, keys_filled}
use Rattle.mc_exec.proofs.KeyRows.{key_rows}
use Rattle.mc_exec.proofs.LineLists.{no_lines}
use Rattle.mc_exec.proofs.finished.put_arranged.Goals as goal

pub put_in_order-requires-clause-keys : goal.put_in_order-requires-clause-keys
put_in_order-requires-clause-keys g c =
    let m = g.B.Book.meaning c.args.book.now in
    subst (λ (o : List TypedOrder). keys_of m o c.args.subjects.now ≡ Some c.put_all_keys.new.keys)
    c.as_slice.ensures (keys_filled (keys_in m c.as_slice.result.now) c.args.subjects.now
    c.new-keys.result c.new-keys.ensures (Some c.put_all_keys.new.keys) c.in-Ok.ensures.told)

pub put_in_order-requires-clause-key_rows : goal.put_in_order-requires-clause-key_rows
put_in_order-requires-clause-key_rows g c =
    let m = g.B.Book.meaning c.args.book.now in
    key_rows m c.args.q.now c.args.subjects.now c.put_all_keys.new.keys c.requires.subjects
    (subst (λ (o : List TypedOrder). keys_of m o c.args.subjects.now ≡ Some c.put_all_keys.new.keys)
    c.as_slice.ensures (keys_filled (keys_in m c.as_slice.result.now) c.args.subjects.now
    c.new-keys.result c.new-keys.ensures (Some c.put_all_keys.new.keys) c.in-Ok.ensures.told))
    c.in-Ok.ensures.kept

pub returns-in-Err-clause-told : goal.returns-in-Err-clause-told
returns-in-Err-clause-told g c =
    let m = g.B.Book.meaning c.args.book.now in
    let q = c.args.q.now in
    let subjects = c.args.subjects.now in
    let orders = c.as_slice.result.now in
    fails (with_all (keys_in m orders) c.new-keys.result subjects)
    (option_map (arranged m q) (all_of (line_in m q) subjects)) c.in-Err.fault
    (λ e. ap (option_map (arranged m q)) (no_lines (values_in m q.items)
    (keys_in m q.orders) subjects
    (ap (λ (o : List TypedOrder). keys_of m o subjects) (sym c.as_slice.ensures)
    ∙ keys_filled (keys_in m orders) subjects c.new-keys.result c.new-keys.ensures None e)))
    c.in-Err.ensures.told

pub put_all_keys-requires-clause-subjects : goal.put_all_keys-requires-clause-subjects
put_all_keys-requires-clause-subjects g c =
    All-weaker (IsShowable (g.B.Book.meaning c.args.book.now) c.args.q.now) IsKeptSubject
    (λ s h. h.kept) c.args.subjects.now c.requires.subjects
