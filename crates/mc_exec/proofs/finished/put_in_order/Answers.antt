-- The places of all subjects, in the order of their keys.
use Rattle.std.proofs.Common.{◌≡◌, ℕ, ◌<◌, List, [], ap, get_or, length, subst, sym, ◌∙◌}
use Rattle.std.specs.Prelude.{All, Option}
use Rattle.mc_group.specs.Order.{row_order}
use Rattle.mc_values.specs.declared.value.Value.{Value}
use Rattle.mc_exec.specs.FullScan.{limited}
use Rattle.std.proofs.lemmas.List.Elements.{All-weaker}
use Rattle.mc_exec.specs.Ready.{IsKeptSubject, IsShowable}
use Rattle.mc_exec.specs.Given.{alone, keys_in, values_in}
use Rattle.mc_exec.specs.Ordered.{directions_of, kinds_of, ordered, places_in_order}
use Rattle.mc_exec.specs.Steps.{with_shown}
use Rattle.mc_exec.specs.Told.{TellsOf}
use Rattle.mc_typing.specs.declared.typed.TypedExpr.{TypedExpr}
use Rattle.mc_typing.specs.declared.typed.TypedOrder.{TypedOrder}
use Rattle.mc_exec.proofs.LineLists.{lines_are}
use Rattle.mc_exec.proofs.ShownRows.{count_all, places_below, shown_in_order}
use Rattle.mc_exec.proofs.finished.put_in_order.Goals as goal

pub put_all_shown-requires-clause-places : goal.put_all_shown-requires-clause-places
put_all_shown-requires-clause-places g c =
    let m = g.B.Book.meaning c.args.book.now in
    let subjects = c.args.subjects.now in
    let same : length c.args.keys.now ≡ length subjects =
    count_all (keys_in m c.args.q.now.orders) subjects c.args.keys.now c.requires.keys in
    subst (λ (places : List ℕ). All (λ p. p < length subjects) places)
    (sym c.as_slice-in-Ok-2.ensures) (subst (λ n. All (λ p. p < n) c.in-Ok.places) same
    (places_below (length c.args.keys.now) c.in-Ok.places c.in-Ok.ensures.all))

pub returns-in-Ok-clause-told : goal.returns-in-Ok-clause-told
returns-in-Ok-clause-told g c =
    let m = g.B.Book.meaning c.args.book.now in
    let q = c.args.q.now in
    let subjects = c.args.subjects.now in
    let keys = c.args.keys.now in
    let wanted = places_in_order (row_order m (kinds_of q.orders) (directions_of q.orders)) keys in
    let are : c.in-Ok.places ≡ wanted = subst (λ (o : List TypedOrder). c.in-Ok.places
    ≡ places_in_order (row_order m (kinds_of o) (directions_of o)) keys)
    c.as_slice.ensures c.in-Ok.ensures.are in
    let is = shown_in_order (values_in m q.items) (alone []) [] q.limit subjects (length keys)
    c.in-Ok.places wanted c.args.shown.now c.requires.none
    (count_all (keys_in m q.orders) subjects keys c.requires.keys) c.in-Ok.ensures.all are in
    let lines = lines_are (values_in m q.items) (keys_in m q.orders)
    (λ ks rows. limited q.limit (ordered m q.orders ks rows)) subjects keys c.requires.keys in
    let shown = λ (items : List TypedExpr) (p : ℕ).
    values_in m items (get_or subjects p (alone [])) in
    subst (λ (o : Option (List (List Value))).
    TellsOf o c.put_all_shown.new.shown c.put_all_shown.result)
    (ap (λ (items : List TypedExpr). with_shown (shown items) q.limit 0 c.args.shown.now
    c.as_slice-in-Ok-2.result.now) c.as_slice-in-Ok.ensures
    ∙ (ap (with_shown (shown q.items) q.limit 0 c.args.shown.now) c.as_slice-in-Ok-2.ensures
    ∙ (is ∙ sym lines)))
    c.put_all_shown.ensures.told

pub put_all_shown-requires-clause-subjects : goal.put_all_shown-requires-clause-subjects
put_all_shown-requires-clause-subjects g c =
    All-weaker (IsShowable (g.B.Book.meaning c.args.book.now) c.args.q.now) IsKeptSubject
    (λ s h. h.kept) c.args.subjects.now c.requires.subjects
