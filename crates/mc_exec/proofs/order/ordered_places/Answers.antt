-- Without keys the places in order are all places.
use Rattle.std.proofs.Common.{◌≡◌, ℕ, List, [], ap, length, ◌∙◌}
use Rattle.std.specs.List.{range_with_len}
use Rattle.mc_group.specs.Order.{row_order}
use Rattle.mc_exec.specs.Ordered.{directions_of, kinds_of, places_in_order}
use Rattle.mc_exec.proofs.Places.{ok_map}
use Rattle.mc_exec.proofs.Unsorted.{empty_of, every_place_is}
use Rattle.mc_exec.proofs.order.ordered_places.Goals as goal

pub returns-then-is_empty-clause-are : goal.returns-then-is_empty-clause-are
returns-then-is_empty-clause-are g c =
    let m = g.B.Book.meaning c.args.book.now in
    let orders = c.args.orders.now in
    let keys = c.args.keys.now in
    let none : orders ≡ [] = empty_of orders c.if-is_empty.ensures in
    let kinds = kinds_of orders in
    let directions = directions_of orders in
    let all : c.len.result ≡ length keys = c.len.ensures in
    ok_map (λ (places : List ℕ). places ≡ range_with_len 0 c.len.result)
    (λ (places : List ℕ). places ≡ places_in_order (row_order m kinds directions) keys)
    c.every_place.result (λ places e. e ∙ (ap (range_with_len 0) all
    ∙ every_place_is m kinds directions keys (ap kinds_of none) (ap directions_of none)
    (c.place_law.ensures.total m kinds directions keys)
    (c.place_law.ensures.ties m kinds directions keys))) c.every_place.ensures
