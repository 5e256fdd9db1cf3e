-- What the order, the sameness and the groups of rows come to.
use Rattle.std.specs.Prelude.{◌≡◌, ◌↔◌, ◌<◌, ℕ, Bool, true, List, [], length, slice_index}
use Rattle.std.specs.Prelude.{slice_index_or}
use Rattle.std.specs.Cmp.{IsEquivalence, IsTotalOrder}
use Rattle.std.specs.declared.cmp.Ordering.TheVariants.{Equal}
use Rattle.mc_order.specs.Meaning.{Meaning}
use Rattle.mc_order.specs.Order.{list_order}
use Rattle.mc_values.specs.declared.value.Value.{Value}
use Rattle.mc_values.specs.declared.value.Value.TheVariants as value
use Rattle.mc_group.specs.declared.kind.KeyKind.{KeyKind}
use Rattle.mc_group.specs.declared.kind.KeyKind.TheVariants as kind
use Rattle.mc_group.specs.Groups.{group_numbers, same_row, same_value}
use Rattle.mc_group.specs.Kinds.{IsOfKind}
use Rattle.mc_group.specs.Order.{AreSorted, row_order, weights_in}

-- Both are NULL, or they are one number, or texts of equal weights.
abbrev pub IsSame : (ℕ → Meaning) → KeyKind → Value → Value → Type 0
IsSame meaning of value.Null value.Null = Unit
IsSame meaning kind.Int (value.Int x) (value.Int y) = x ≡ y
IsSame meaning (kind.Text id) (value.Str set text) (value.Str other more) =
    let m = meaning id.0 in
    list_order m.pad m.space (weights_in m (value.Str set text))
    (weights_in m (value.Str other more))
    ≡ Equal
IsSame meaning of one other = ⊥

-- So are values of a kind that are the same.
abbrev pub SameIsTold : Type 0
SameIsTold =
    (meaning : ℕ → Meaning) (of : KeyKind) (one other : Value) → IsOfKind meaning of one →
    IsOfKind meaning of other →
    (same_value meaning of one other ≡ true) ↔ IsSame meaning of one other

-- The order of rows is total.
abbrev pub RowsAreOrdered : Type 0
RowsAreOrdered =
    (meaning : ℕ → Meaning) (kinds : List KeyKind) (desc : List Bool) →
    IsTotalOrder (row_order meaning kinds desc)

-- Rows have one list of places in order.
abbrev pub OneListIsSorted : Type 0
OneListIsSorted =
    (meaning : ℕ → Meaning) (kinds : List KeyKind) (desc : List Bool)
    (rows : List (List Value)) (places others : List ℕ) →
    AreSorted (row_order meaning kinds desc) rows places →
    AreSorted (row_order meaning kinds desc) rows others → places ≡ others

-- Being the same parts rows into classes.
abbrev pub SameIsEquivalence : Type 0
SameIsEquivalence =
    (meaning : ℕ → Meaning) (kinds : List KeyKind) → IsEquivalence (same_row meaning kinds)

-- Two rows have one group's number exactly where they are the same.
abbrev pub GroupsAreClasses : Type 0
GroupsAreClasses =
    (meaning : ℕ → Meaning) (kinds : List KeyKind) (rows : List (List Value)) (i j : ℕ) →
    i < length rows → j < length rows →
    let numbers = group_numbers (same_row meaning kinds) rows in
    (slice_index numbers i ≡ slice_index numbers j)
    ↔ (same_row meaning kinds (slice_index_or rows i []) (slice_index_or rows j []) ≡ true)
