-- Fronts: a number of a list's first weights, by which most lists are told apart.
use Rattle.std.specs.Prelude.{◌≡◌, ℕ, zero, suc, ◌+◌, ◌*◌, ◌^◌, ◌<◌, nat_le, List, drop}
use Rattle.std.specs.Prelude.{slice_index_or, if◌then◌else◌}
use Rattle.std.specs.declared.cmp.Ordering.TheVariants.{Less, Greater}
use Rattle.mc_order.specs.declared.pad.Pad.{Pad}
use Rattle.mc_order.specs.declared.pad.Pad.TheVariants.{PadSpace, NoPad}
use Rattle.mc_order.specs.Order.{list_order}

-- what a front has behind a list's end: the space where the list is padded, else 0
abbrev pub filler : Pad → ℕ → ℕ
filler PadSpace space = space
filler NoPad space = 0

-- the greatest number of 16 bits, which stands for itself and all above it
abbrev pub greatest_digit : ℕ
greatest_digit = 65535

-- a weight with n digits behind it, each of 16 bits; behind the greatest digit they are 0
abbrev pub with_digits : (n weight digits : ℕ) → ℕ
with_digits n weight digits =
    if nat_le greatest_digit weight then greatest_digit * 2 ^ (16 * n)
    else weight * 2 ^ (16 * n) + digits

-- the first n weights of a list, the first one highest
unfoldable pub first_digits : (n : ℕ) → Pad → ℕ → List ℕ → ℕ
first_digits zero pad space list = 0
first_digits (suc n) pad space list =
    with_digits n (slice_index_or list 0 (filler pad space))
    (first_digits n pad space (drop 1 list))

-- the front of a list: its first eight weights
abbrev pub front_of : Pad → ℕ → List ℕ → ℕ
front_of pad space list = first_digits 8 pad space list

-- Where two fronts differ they decide the order of the lists.
abbrev pub FrontsDecide : Type 0
FrontsDecide =
    (pad : Pad) (space : ℕ) (list other : List ℕ) →
    (front_of pad space list < front_of pad space other → list_order pad space list other ≡ Less)
    × (front_of pad space other < front_of pad space list →
    list_order pad space list other ≡ Greater)
