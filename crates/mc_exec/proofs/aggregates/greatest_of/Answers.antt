-- The value at the place that is found, or NULL.
use Rattle.std.proofs.Common.{◌≡◌, ◌∙◌, sym}
use Rattle.std.specs.Ordering.{flip_args}
use Rattle.mc_group.specs.Order.{value_order}
use Rattle.mc_values.specs.declared.value.Value.{Value}
use Rattle.mc_exec.specs.Aggregates.{extreme}
use Rattle.mc_exec.proofs.Extreme.{extreme_item, extreme_null}
use Rattle.mc_exec.proofs.Places.{ok_map}
use Rattle.mc_exec.proofs.aggregates.greatest_of.Goals as goal

pub returns-in-Some : goal.returns-in-Some
returns-in-Some g c =
    let order = flip_args (value_order (g.B.Book.meaning c.args.book.now) c.args.kind) in
    let item = c.index-as_slice-place.result in
    let is = extreme_item order c.args.values.now c.as_slice.result.now c.in-Some.place item
    c.as_slice.ensures c.index-as_slice-place.is c.in-Some.ensures.1 in
    ok_map (λ (it : Value). it ≡ item) (λ (it : Value). it ≡ extreme order c.args.values.now)
    c.copy_value.result (λ it e. e ∙ is) c.copy_value.ensures

pub returns-in-None : goal.returns-in-None
returns-in-None g c =
    sym (extreme_null (flip_args (value_order (g.B.Book.meaning c.args.book.now) c.args.kind))
    c.args.values.now c.in-None.ensures)
