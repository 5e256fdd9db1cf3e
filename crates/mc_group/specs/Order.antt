-- The order of values and of key rows: MySQL 8.0 manual, 3.3.4.6 (NULL) and 10.8.5 (texts).
use Rattle.std.specs.Prelude.{ℕ, Bool, true, false, ℤ, pos, List, [], ◌∷◌}
use Rattle.std.specs.Prelude.{drop, length, slice_index_or}
use Rattle.std.specs.List.{range_with_len}
use Rattle.std.specs.List.Sorted.{IsPermutation, IsStrictlySortedBy}
use Rattle.std.specs.Ordering.{flip_args, int_cmp, nat_cmp, on, ordering_then, then_cmp}
use Rattle.std.specs.declared.cmp.Ordering.{Ordering}
use Rattle.std.specs.declared.cmp.Ordering.TheVariants.{Equal}
use Rattle.mc_charset.specs.Chars.{chars}
use Rattle.mc_order.specs.Meaning.{Meaning, flat_list}
use Rattle.mc_order.specs.Order.{list_order}
use Rattle.mc_values.specs.declared.value.Value.{Value}
use Rattle.mc_values.specs.declared.value.Value.TheVariants as value
use Rattle.mc_group.specs.declared.kind.KeyKind.{KeyKind}
use Rattle.mc_group.specs.declared.kind.KeyKind.TheVariants as kind

-- NULL stands before all other values.
abbrev pub presence : Value → ℕ
presence value.Null = 0
presence it = 1

-- The number of a value, where it is one.
abbrev pub number_in : Value → ℤ
number_in (value.Int number) = number
number_in it = pos 0

-- The weights of a value by a collation, where it is a text.
abbrev pub weights_in : Meaning → Value → List ℕ
weights_in m (value.Str set text) = flat_list m (chars m.charset text)
weights_in m it = []

-- The order of two numbers, or of two texts by their weights.
abbrev pub order_within : (ℕ → Meaning) → KeyKind → Value → Value → Ordering
order_within meaning kind.Int = on number_in int_cmp
order_within meaning (kind.Text id) =
    let m = meaning id.0 in on (weights_in m) (list_order m.pad m.space)

-- The order of two values of a kind: NULL first, then numbers or texts.
abbrev pub value_order : (ℕ → Meaning) → KeyKind → Value → Value → Ordering
value_order meaning of = then_cmp (on presence nat_cmp) (order_within meaning of)

-- Descending, the order the other way round.
abbrev pub directed : Bool → (Value → Value → Ordering) → Value → Value → Ordering
directed false order = order
directed true order = flip_args order

-- The first value of a row.
abbrev pub first_value : List Value → Value
first_value row = slice_index_or row 0 value.Null

-- The order of two key rows: the first value that differs decides, in its direction.
unfoldable pub row_order : (ℕ → Meaning) → List KeyKind → List Bool →
    List Value → List Value → Ordering
row_order meaning [] desc one other = Equal
row_order meaning (of ∷ kinds) desc one other =
    ordering_then
    (directed (slice_index_or desc 0 false) (value_order meaning of) (first_value one)
    (first_value other))
    (row_order meaning kinds (drop 1 desc) (drop 1 one) (drop 1 other))

-- The order of two rows' places: that of the rows, and of the places where the rows are equal.
abbrev pub place_order : (List Value → List Value → Ordering) → List (List Value) →
    ℕ → ℕ → Ordering
place_order order rows =
    then_cmp (on (λ place. slice_index_or rows place []) order) nat_cmp

-- The places of all rows, each once, in order.
pub record AreSorted (order : List Value → List Value → Ordering) (rows : List (List Value))
    (places : List ℕ) : Type 0 where
  pub all : IsPermutation (range_with_len 0 (length rows)) places
  pub ascending : IsStrictlySortedBy (place_order order rows) places
