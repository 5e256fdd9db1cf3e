-- ORDER BY: MySQL 8.0 manual, 8.2.1.16.
use Rattle.std.specs.Prelude.{ℕ, Bool, List, [], ◌∷◌, length, map, slice_index_or}
use Rattle.std.specs.BTreeSet.{insert_key}
use Rattle.std.specs.List.{range_with_len}
use Rattle.std.specs.declared.cmp.Ordering.{Ordering}
use Rattle.mc_group.specs.Order.{place_order, row_order}
use Rattle.mc_group.specs.declared.kind.KeyKind.{KeyKind}
use Rattle.mc_group.specs.declared.kind.KeyKind.TheVariants as kind
use Rattle.mc_order.specs.Meaning.{Meaning}
use Rattle.mc_typing.specs.declared.typed.Ty.{Ty}
use Rattle.mc_typing.specs.declared.typed.Ty.TheVariants as ty
use Rattle.mc_typing.specs.declared.typed.TypedOrder.{TypedOrder}
use Rattle.mc_values.specs.declared.value.Value.{Value}

-- What values of a type are compared as.
abbrev pub kind_of : Ty → KeyKind
kind_of (ty.Str operand) = kind.Text operand.collation
kind_of type = kind.Int

abbrev pub kinds_of : List TypedOrder → List KeyKind
kinds_of orders = map (λ key. kind_of key.expr.ty) orders

abbrev pub directions_of : List TypedOrder → List Bool
directions_of orders = map (λ key. key.desc) orders

-- Different members in order.
unfoldable pub in_order : {A : Type 0} → (A → A → Ordering) → List A → List A
in_order order [] = []
in_order order (x ∷ xs) = insert_key order (in_order order xs) x

-- The places of rows in order; where nothing tells rows apart, in the order of their places.
abbrev pub places_in_order : (List Value → List Value → Ordering) → List (List Value) → List ℕ
places_in_order order keys = in_order (place_order order keys) (range_with_len 0 (length keys))

-- Rows in the order of their keys.
abbrev pub ordered : (ℕ → Meaning) → List TypedOrder → List (List Value) → List (List Value)
    → List (List Value)
ordered meaning orders keys rows = map (λ place. slice_index_or rows place [])
    (places_in_order (row_order meaning (kinds_of orders) (directions_of orders)) keys)
