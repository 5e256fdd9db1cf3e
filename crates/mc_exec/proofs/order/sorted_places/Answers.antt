-- What the sort gives are the places in order.
use Rattle.std.proofs.Common.{◌≡◌, ℕ, Bool, List, length, subst}
use Rattle.std.specs.List.{range_with_len}
use Rattle.std.specs.Prelude.{IfOk, IsPermutation}
use Rattle.mc_group.specs.Order.{AreSorted, row_order}
use Rattle.mc_group.specs.declared.kind.KeyKind.{KeyKind}
use Rattle.mc_exec.specs.Ordered.{directions_of, kinds_of, places_in_order}
use Rattle.mc_exec.proofs.Places.{ok_map, places_are}
use Rattle.mc_exec.proofs.order.sorted_places.Goals as goal

pub returns-clause-are : goal.returns-clause-are
returns-clause-are g c =
    let m = g.B.Book.meaning c.args.book.now in
    let keys = c.args.keys.now in
    let kinds = kinds_of c.args.orders.now in
    let directions = directions_of c.args.orders.now in
    let order = row_order m kinds directions in
    let P : List ℕ → Type 0 = λ places. AreSorted order keys places in
    let Q : List ℕ → Type 0 = λ places. places ≡ places_in_order order keys in
    let by_kinds : IfOk c.order_rows.result
    (λ places. AreSorted (row_order m kinds c.put_directions.new.directions) keys places) =
    subst (λ (k : List KeyKind). IfOk c.order_rows.result
    (λ places. AreSorted (row_order m k c.put_directions.new.directions) keys places))
    c.in_ok-put_kinds.ensures c.order_rows.ensures in
    let sorted : IfOk c.order_rows.result P =
    subst (λ (d : List Bool). IfOk c.order_rows.result
    (λ places. AreSorted (row_order m kinds d) keys places))
    c.in_ok-put_directions.ensures by_kinds in
    ok_map P Q c.order_rows.result (λ places s. places_are order keys
    (c.place_law.ensures.total m kinds directions keys)
    (c.place_law.ensures.ties m kinds directions keys) places s) sorted

pub returns-clause-all : goal.returns-clause-all
returns-clause-all g c =
    let m = g.B.Book.meaning c.args.book.now in
    let order = row_order m c.put_kinds.new.kinds
    c.put_directions.new.directions in
    let P : List ℕ → Type 0 = λ places. AreSorted order c.args.keys.now places in
    let Q : List ℕ → Type 0 = λ places. IsPermutation (range_with_len 0
    (length c.args.keys.now)) places in
    ok_map P Q c.order_rows.result (λ places s. s.all) c.order_rows.ensures
