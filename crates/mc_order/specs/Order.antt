-- The order of weight lists: MySQL 8.0 manual, 10.8.5, "Trailing Space Handling in Comparisons".
use Rattle.std.specs.Prelude.{◌≡◌, ℕ, zero, suc, ◌<◌, List, [], ◌∷◌}
use Rattle.std.specs.declared.cmp.Ordering.{Ordering}
use Rattle.std.specs.declared.cmp.Ordering.TheVariants.{Less, Equal, Greater}
use Rattle.std.specs.Ordering.{nat_cmp, ordering_then, ordering_reverse}
use Rattle.mc_order.specs.declared.pad.Pad.{Pad}
use Rattle.mc_order.specs.declared.pad.Pad.TheVariants.{PadSpace, NoPad}

-- What stands behind a list's end: the space's weight, or unpadded a mark below every weight.
-- A weight w counts as w + 1, so that the mark has a number.
abbrev pub end_mark : Pad → ℕ → ℕ
end_mark PadSpace space = suc space
end_mark NoPad space = 0

-- A list prolonged without end: what stands at each place.
abbrev pub prolonged : Pad → ℕ → List ℕ → ℕ → ℕ
prolonged pad space [] i = end_mark pad space
prolonged pad space (x ∷ xs) zero = suc x
prolonged pad space (x ∷ xs) (suc i) = prolonged pad space xs i

-- The two agree before place n.
abbrev pub AgreeBefore : ℕ → (ℕ → ℕ) → (ℕ → ℕ) → Type 0
AgreeBefore n p q = (i : ℕ) → i < n → p i ≡ q i

-- Two endless lists are equal where no place differs; else the first place that differs decides.
abbrev pub Compares : (ℕ → ℕ) → (ℕ → ℕ) → Ordering → Type 0
Compares p q Equal = (i : ℕ) → p i ≡ q i
Compares p q Less = (n : ℕ) × AgreeBefore n p q × (p n < q n)
Compares p q Greater = (n : ℕ) × AgreeBefore n p q × (q n < p n)

-- This is the order of the two lists, each prolonged without end.
abbrev pub IsOrder : Pad → ℕ → List ℕ → List ℕ → Ordering → Type 0
IsOrder pad space a b order = Compares (prolonged pad space a) (prolonged pad space b) order

-- The order of a list and of what stands behind an end.
unfoldable pub order_to_end : Pad → ℕ → List ℕ → Ordering
order_to_end pad space [] = Equal
order_to_end NoPad space (x ∷ xs) = Greater
order_to_end PadSpace space (x ∷ xs) =
    ordering_then (nat_cmp x space) (order_to_end PadSpace space xs)

-- The order of two lists, computed: `order_laws` says that it is the one of `IsOrder`.
unfoldable pub list_order : Pad → ℕ → List ℕ → List ℕ → Ordering
list_order pad space [] ys = ordering_reverse (order_to_end pad space ys)
list_order pad space (x ∷ xs) [] = order_to_end pad space (x ∷ xs)
list_order pad space (x ∷ xs) (y ∷ ys) =
    ordering_then (nat_cmp x y) (list_order pad space xs ys)
