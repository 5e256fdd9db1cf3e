-- Cells compare as the values do.
use Rattle.std.proofs.Common.{◌≡◌, ℕ, zero, suc, ◌+◌, ◌<◌, ◌≤◌, Bool, true, false, ℤ, pos, List, []}
use Rattle.std.proofs.Common.{◌∷◌, length, get_or, drop, refl, sym, ap, ◌∙◌, add-one, arith}
use Rattle.std.specs.declared.cmp.Ordering.{Ordering}
use Rattle.std.specs.declared.cmp.Ordering.TheVariants.{Less, Equal, Greater}
use Rattle.std.specs.Ordering.{int_cmp, ordering_then}
use Rattle.std.proofs.lemmas.List.{at_drop_more, at_drop_all, get_or-drop}
use Rattle.mc_order.specs.Meaning.{Meaning}
use Rattle.mc_order.specs.declared.pad.Pad.{Pad}
use Rattle.mc_order.specs.Order.{list_order, order_to_end}
use Rattle.mc_values.specs.declared.value.Value.{Value}
use Rattle.mc_values.specs.declared.value.Value.TheVariants as value
use Rattle.mc_group.specs.declared.cell.Cell.{Cell}
use Rattle.mc_group.specs.declared.cell.Cell.TheVariants as cell
use Rattle.mc_group.specs.declared.column.Column.{Column}
use Rattle.mc_group.specs.declared.kind.KeyKind.{KeyKind}
use Rattle.mc_group.specs.declared.kind.KeyKind.TheVariants as kind
use Rattle.mc_group.specs.Order.{directed, first_value, row_order, value_order}
use Rattle.mc_group.specs.Cells.{ascending, cell_of, cell_order, cells_of, cells_order, column_of}
use Rattle.mc_group.specs.Cells.{columns_of, each_with, first_cell}

pub no_weights : (pad : Pad) (space : ℕ) → list_order pad space [] [] ≡ Equal
unfolding list_order order_to_end
no_weights pad space = refl

then_equal : (o p : Ordering) → p ≡ Equal → ordering_then o p ≡ o
then_equal Less p e = refl
then_equal Equal p e = e
then_equal Greater p e = refl

pub ascending-numbers : (column : Column) (x y : ℤ) →
    ascending column (cell.Number x) (cell.Number y) ≡ int_cmp x y
ascending-numbers column x y =
    then_equal (int_cmp x y) (list_order column.pad column.space [] [])
    (no_weights column.pad column.space)

pub ascending-weights : (column : Column) (v w : List ℕ) →
    ascending column (cell.Weights v) (cell.Weights w) ≡ list_order column.pad column.space v w
ascending-weights column v w = refl

pub ascending-nulls : (column : Column) → ascending column cell.Null cell.Null ≡ Equal
ascending-nulls column = no_weights column.pad column.space

pub ruleset ascending_steps = (ascending-numbers, ascending-weights, ascending-nulls)

drop_suc : {A : Type 0} (i : ℕ) (xs : List A) → drop 1 (drop i xs) ≡ drop (suc i) xs
drop_suc zero xs = refl
drop_suc (suc i) [] = refl
drop_suc (suc i) (x ∷ xs) = drop_suc i xs

drop_one : {A : Type 0} (i : ℕ) (xs : List A) → drop 1 (drop i xs) ≡ drop (i + 1) xs
drop_one i xs = drop_suc i xs ∙ ap (λ n. drop n xs) (sym (add-one i))

first_at : {A : Type 0} (i : ℕ) (xs : List A) (d : A) → get_or (drop i xs) 0 d ≡ get_or xs i d
first_at i xs d =
    let e : i + 0 ≡ i = omega arith in get_or-drop i xs 0 d ∙ ap (λ n. get_or xs n d) e

step_alike : (column : Column) (columns : List Column) (p q r s : Cell)
    (one other more rest : List Cell) →
    p ≡ q → r ≡ s → one ≡ more → other ≡ rest →
    ordering_then (cell_order column p r) (cells_order columns one other)
    ≡ ordering_then (cell_order column q s) (cells_order columns more rest)
step_alike column columns p q r s one other more rest a b x y =
    λ i. ordering_then (cell_order column (a i) (b i)) (cells_order columns (x i) (y i))

-- The cells from a place on: those at the place, and then the rest.
pub cells_order-at : (columns : List Column) (one other : List Cell) (i : ℕ) (d : Column) →
    i < length columns → cells_order (drop i columns) (drop i one) (drop i other)
    ≡ ordering_then
    (cell_order (get_or columns i d) (get_or one i cell.Null) (get_or other i cell.Null))
    (cells_order (drop (i + 1) columns) (drop (i + 1) one) (drop (i + 1) other))
unfolding cells_order
cells_order-at columns one other i d within =
    at_drop_more (λ cs. cells_order cs (drop i one) (drop i other)) columns i d within
    ∙ step_alike (get_or columns i d) (drop (i + 1) columns) (first_cell (drop i one))
    (get_or one i cell.Null) (first_cell (drop i other)) (get_or other i cell.Null)
    (drop 1 (drop i one)) (drop 1 (drop i other)) (drop (i + 1) one) (drop (i + 1) other)
    (first_at i one cell.Null) (first_at i other cell.Null) (drop_one i one) (drop_one i other)

pub cells_order-past : (columns : List Column) (one other : List Cell) (i : ℕ) →
    length columns ≤ i → cells_order (drop i columns) (drop i one) (drop i other) ≡ Equal
unfolding cells_order
cells_order-past columns one other i past =
    at_drop_all (λ cs. cells_order cs (drop i one) (drop i other)) columns i past

pub ruleset cells_order_steps = (cells_order-at, cells_order-past)

then_first : (o p : Ordering) → (o ≡ Equal → ⊥) → ordering_then o p ≡ o
then_first Less p other = refl
then_first Equal p other = absurd (other refl)
then_first Greater p other = refl

-- The cells at a place differ, and so decide.
pub decided : (columns : List Column) (one other : List Cell) (i : ℕ) (d : Column)
    (answer all : Ordering) → i < length columns →
    cells_order (drop i columns) (drop i one) (drop i other) ≡ all →
    answer
    ≡ cell_order (get_or columns i d) (get_or one i cell.Null) (get_or other i cell.Null) →
    (answer ≡ Equal → ⊥) → answer ≡ all
decided columns one other i d answer all within is here differs =
    let rest = cells_order (drop (i + 1) columns) (drop (i + 1) one) (drop (i + 1) other) in
    sym (then_first answer rest differs) ∙ ap (λ o. ordering_then o rest) here
    ∙ sym (cells_order-at columns one other i d within) ∙ is

-- The cells at a place are equal, so the rest decide.
pub passed : (columns : List Column) (one other : List Cell) (i : ℕ) (d : Column)
    (all : Ordering) → i < length columns →
    cells_order (drop i columns) (drop i one) (drop i other) ≡ all →
    Equal
    ≡ cell_order (get_or columns i d) (get_or one i cell.Null) (get_or other i cell.Null) →
    cells_order (drop (i + 1) columns) (drop (i + 1) one) (drop (i + 1) other) ≡ all
passed columns one other i d all within is here =
    let rest = cells_order (drop (i + 1) columns) (drop (i + 1) one) (drop (i + 1) other) in
    ap (λ o. ordering_then o rest) here ∙ sym (cells_order-at columns one other i d within) ∙ is

-- Two values compare as their cells.
value_order-is : (meaning : ℕ → Meaning) (of : KeyKind) (desc : Bool) (v w : Value) →
    value_order meaning of v w
    ≡ ascending (column_of meaning of desc) (cell_of meaning of v) (cell_of meaning of w)
value_order-is meaning kind.Int desc value.Null value.Null =
    sym (ascending-nulls (column_of meaning kind.Int desc))
value_order-is meaning kind.Int desc value.Null (value.Int y) = refl
value_order-is meaning kind.Int desc value.Null (value.Str set text) = refl
value_order-is meaning kind.Int desc (value.Int x) value.Null = refl
value_order-is meaning kind.Int desc (value.Int x) (value.Int y) =
    sym (ascending-numbers (column_of meaning kind.Int desc) x y)
value_order-is meaning kind.Int desc (value.Int x) (value.Str set text) =
    sym (ascending-numbers (column_of meaning kind.Int desc) x (pos 0))
value_order-is meaning kind.Int desc (value.Str set text) value.Null = refl
value_order-is meaning kind.Int desc (value.Str set text) (value.Int y) =
    sym (ascending-numbers (column_of meaning kind.Int desc) (pos 0) y)
value_order-is meaning kind.Int desc (value.Str set text) (value.Str other more) =
    sym (ascending-numbers (column_of meaning kind.Int desc) (pos 0) (pos 0))
value_order-is meaning (kind.Text id) desc value.Null value.Null = refl
value_order-is meaning (kind.Text id) desc value.Null (value.Int y) = refl
value_order-is meaning (kind.Text id) desc value.Null (value.Str set text) = refl
value_order-is meaning (kind.Text id) desc (value.Int x) value.Null = refl
value_order-is meaning (kind.Text id) desc (value.Int x) (value.Int y) = refl
value_order-is meaning (kind.Text id) desc (value.Int x) (value.Str set text) = refl
value_order-is meaning (kind.Text id) desc (value.Str set text) value.Null = refl
value_order-is meaning (kind.Text id) desc (value.Str set text) (value.Int y) = refl
value_order-is meaning (kind.Text id) desc (value.Str set text) (value.Str other more) = refl

directed-is : (meaning : ℕ → Meaning) (of : KeyKind) (desc : Bool) (v w : Value) →
    directed desc (value_order meaning of) v w
    ≡ cell_order (column_of meaning of desc) (cell_of meaning of v) (cell_of meaning of w)
directed-is meaning kind.Int false v w = value_order-is meaning kind.Int false v w
directed-is meaning kind.Int true v w = value_order-is meaning kind.Int true w v
directed-is meaning (kind.Text id) false v w = value_order-is meaning (kind.Text id) false v w
directed-is meaning (kind.Text id) true v w = value_order-is meaning (kind.Text id) true w v

-- Two rows compare as their cells.
pub row_order-is : (meaning : ℕ → Meaning) (kinds : List KeyKind) (desc : List Bool)
    (one other : List Value) →
    row_order meaning kinds desc one other
    ≡ cells_order (columns_of meaning kinds desc) (cells_of meaning kinds one)
    (cells_of meaning kinds other)
unfolding row_order cells_order each_with
row_order-is meaning [] desc one other = refl
row_order-is meaning (of ∷ kinds) desc one other =
    ap (λ o. ordering_then o (row_order meaning kinds (drop 1 desc) (drop 1 one) (drop 1 other)))
    (directed-is meaning of (get_or desc 0 false) (first_value one) (first_value other))
    ∙ ap (ordering_then (cell_order (column_of meaning of (get_or desc 0 false))
    (cell_of meaning of (first_value one)) (cell_of meaning of (first_value other))))
    (row_order-is meaning kinds (drop 1 desc) (drop 1 one) (drop 1 other))
