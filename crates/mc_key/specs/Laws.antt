-- What keys are: they compare as their texts do, and equal ones are one list.
use Rattle.std.specs.Prelude.{◌≡◌, ◌↔◌, ◌≤◌, ℕ, List, [], ◌∷◌, ◌++◌}
use Rattle.std.specs.Cmp.{IsTotalOrder}
use Rattle.std.specs.List.{repeat}
use Rattle.std.specs.declared.cmp.Ordering.TheVariants.{Less, Equal}
use Rattle.mc_order.specs.declared.pad.Pad.{Pad}
use Rattle.mc_order.specs.Laws.{greatest_weight}
use Rattle.mc_order.specs.Order.{list_order}
use Rattle.mc_key.specs.Keys.{SeenKey, kept_list, without_spaces, top}

-- What a key leaves out is spaces at the list's end.
abbrev pub SpacesFallAway : Type 0
SpacesFallAway =
    (space : ℕ) (list : List ℕ) →
    (n : ℕ) × (list ≡ without_spaces space list ++ repeat n (space ∷ []))

-- Kept lists are kept whole.
abbrev pub KeptStays : Type 0
KeptStays =
    (pad : Pad) (space : ℕ) (list : List ℕ) →
    kept_list pad space (kept_list pad space list) ≡ kept_list pad space list

-- What keys keep compares with any list as the whole list does.
abbrev pub KeptComparesAlike : Type 0
KeptComparesAlike =
    (pad : Pad) (space : ℕ) (list other : List ℕ) →
    list_order pad space (kept_list pad space list) other ≡ list_order pad space list other

-- Two keys compare as the two whole lists do.
abbrev pub KeysCompareAlike : Type 0
KeysCompareAlike =
    (pad : Pad) (space : ℕ) (list other : List ℕ) →
    list_order pad space (kept_list pad space list) (kept_list pad space other)
    ≡ list_order pad space list other

-- Two lists are equal in the order exactly where keys keep the same of both.
abbrev pub EqualAreKeptAlike : Type 0
EqualAreKeptAlike =
    (pad : Pad) (space : ℕ) (list other : List ℕ) →
    (list_order pad space list other ≡ Equal)
    ↔ (kept_list pad space list ≡ kept_list pad space other)

-- The order of keys of one padding and one space is total.
abbrev pub KeysAreOrdered : Type 0
KeysAreOrdered =
    (pad : Pad) (space : ℕ) →
    IsTotalOrder
    (λ list other. list_order pad space (kept_list pad space list) (kept_list pad space other))

-- Two keys of one padding and one space are equal in it exactly where they keep the same weights.
abbrev pub EqualKeysAreOneList : Type 0
EqualKeysAreOneList =
    (a b : SeenKey) → a.pad ≡ b.pad → a.space ≡ b.space →
    (list_order a.pad a.space a.weights b.weights ≡ Equal) ↔ (a.weights ≡ b.weights)

-- The number above every weight stands behind what goes on with a weight, or with nothing.
abbrev pub TopIsAbove : Type 0
TopIsAbove =
    (pad : Pad) (space weight : ℕ) (front rest more : List ℕ) → weight ≤ greatest_weight →
    list_order pad space (front ++ weight ∷ rest) (front ++ top ∷ more) ≡ Less

abbrev pub TopIsAboveEnd : Type 0
TopIsAboveEnd =
    (pad : Pad) (space : ℕ) (front more : List ℕ) → space ≤ greatest_weight →
    list_order pad space front (front ++ top ∷ more) ≡ Less
