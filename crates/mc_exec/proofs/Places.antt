-- The places of rows in order are those that a sort of the places gives.
use Rattle.std.proofs.Common.{◌≡◌, ℕ, List, Ok, Err, length}
use Rattle.std.specs.Cmp.{IsTotalOrder}
use Rattle.std.specs.List.{range_with_len}
use Rattle.std.specs.Prelude.{IfOk, OnOk, Result}
use Rattle.std.specs.declared.cmp.Ordering.{Ordering}
use Rattle.std.specs.declared.cmp.Ordering.TheVariants.{Equal}
use Rattle.mc_group.specs.Order.{AreSorted, place_order}
use Rattle.mc_values.specs.declared.value.Value.{Value}
use Rattle.mc_exec.specs.Ordered.{places_in_order}
use Rattle.mc_exec.proofs.Sorted.{sorted_is}

pub places_are : (order : List Value → List Value → Ordering) (rows : List (List Value))
    → IsTotalOrder (place_order order rows)
    → ((x y : ℕ) → place_order order rows x y ≡ Equal → x ≡ y) → (places : List ℕ)
    → AreSorted order rows places → places ≡ places_in_order order rows
places_are order rows o ties places s =
    sorted_is (place_order order rows) o ties (range_with_len 0
    (length rows)) places s.all s.ascending

pub ok_map : {T E : Type 0} (P Q : T → Type 0) (r : Result T E) → ((x : T) → P x → Q x)
    → IfOk r P → IfOk r Q
ok_map P Q (Ok x) f h = f x h
ok_map P Q (Err e) f h = tt

pub on_ok : {T E : Type 0} {P Q : Type 0} (r : Result T E) → (P → Q) → OnOk r P → OnOk r Q
on_ok (Ok x) f h = f h
on_ok (Err e) f h = tt

pub on_some : {T E : Type 0} {P : Type 0} (r : Result T E) → P → OnOk r P
on_some (Ok x) h = h
on_some (Err e) h = tt
