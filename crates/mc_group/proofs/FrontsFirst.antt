-- Entries sorted by their fronts first are sorted.
use Rattle.std.proofs.Common.{◌≡◌, ℕ, ◌+◌, ◌<◌, Bool, true, false, List, [], ◌∷◌, drop}
use Rattle.std.proofs.Common.{get_or, map, refl, sym, ap, ◌∙◌, subst, arith}
use Rattle.std.specs.List.{range_with_len}
use Rattle.std.specs.List.Sorted.{IsSorted}
use Rattle.std.specs.Cmp.{IsTotalOrder}
use Rattle.std.specs.Ordering.{is_lt, nat_cmp, ordering_then}
use Rattle.std.specs.declared.cmp.Ordering.{Ordering}
use Rattle.std.specs.declared.cmp.Ordering.TheVariants.{Less, Equal, Greater}
use Rattle.std.proofs.lemmas.Cmp.{nat_cmp_total, on_total, ranked, then_total}
use Rattle.std.proofs.lemmas.List.FromFn.{get_or-map-range_with_len, length-map-range_with_len}
use Rattle.mc_order.specs.Meaning.{Meaning}
use Rattle.mc_order.specs.declared.pad.Pad.{Pad}
use Rattle.mc_order.specs.Order.{list_order}
use Rattle.mc_key.specs.Fronts.{FrontsDecide}
use Rattle.mc_values.specs.declared.value.Value.{Value}
use Rattle.mc_group.specs.declared.cell.Cell.{Cell}
use Rattle.mc_group.specs.declared.cell.Cell.TheVariants as cell
use Rattle.mc_group.specs.declared.column.Column.{Column}
use Rattle.mc_group.specs.declared.entry.Entry.{Entry}
use Rattle.mc_group.specs.declared.kind.KeyKind.{KeyKind}
use Rattle.mc_group.specs.Cells.{ascending, cells_order, entry_order, first_cell, turned}
use Rattle.mc_group.specs.Fronts.{AreFronted, IsFronted, ascending_front, entry_of}
use Rattle.mc_group.specs.Fronts.{fronts_first, row_front, turned_front}
use Rattle.mc_group.proofs.Totals.{entry_total}

pub fronts_total : ((pad : Pad) (space : ℕ) → IsTotalOrder (list_order pad space)) →
    (columns : List Column) → IsTotalOrder (fronts_first columns)
fronts_total lists columns =
    then_total (on_total (λ (entry : Entry). entry.front) nat_cmp_total)
    (entry_total lists columns)

-- The cell with the smaller front is before the other.
ascending_decides : FrontsDecide → (column : Column) (a b : Cell) →
    ascending_front column b < ascending_front column a → ascending column a b ≡ Greater
ascending_decides decide column (cell.Weights v) (cell.Weights w) more =
    (decide column.pad column.space v w).1 more
ascending_decides decide column (cell.Weights v) cell.Null more = refl
ascending_decides decide column (cell.Weights v) (cell.Number y) more = refl
ascending_decides decide column cell.Null b more = absurd (omega (arith, more))
ascending_decides decide column (cell.Number x) b more = absurd (omega (arith, more))

ascending_below : FrontsDecide → (column : Column) (a b : Cell) →
    ascending_front column b < ascending_front column a → ascending column b a ≡ Less
ascending_below decide column (cell.Weights v) (cell.Weights w) more =
    (decide column.pad column.space w v).0 more
ascending_below decide column (cell.Weights v) cell.Null more = refl
ascending_below decide column (cell.Weights v) (cell.Number y) more = refl
ascending_below decide column cell.Null b more = absurd (omega (arith, more))
ascending_below decide column (cell.Number x) b more = absurd (omega (arith, more))

turned_decides : FrontsDecide → (desc : Bool) (column : Column) (a b : Cell) →
    turned_front desc (ascending_front column b) < turned_front desc (ascending_front column a) →
    turned desc (ascending column) a b ≡ Greater
turned_decides decide false column a b more = ascending_decides decide column a b more
turned_decides decide true column a b more =
    ascending_decides decide column b a (omega (arith, more))

-- The row with the greater front is behind the other.
cells_decide : FrontsDecide → (columns : List Column) (one other : List Cell) →
    row_front columns other < row_front columns one → cells_order columns one other ≡ Greater
unfolding cells_order
cells_decide decide [] one other more = absurd (omega (arith, more))
cells_decide decide (column ∷ columns) one other more =
    ap (λ o. ordering_then o (cells_order columns (drop 1 one) (drop 1 other)))
    (turned_decides decide column.desc column (first_cell one) (first_cell other) more)

by_front : FrontsDecide → (columns : List Column) (a b : Entry) (order : Ordering) →
    IsFronted columns a → IsFronted columns b → order ≡ nat_cmp a.front b.front →
    is_lt (ordering_then order (entry_order columns a b)) ≡ false →
    is_lt (entry_order columns a b) ≡ false
by_front decide columns a b Less fa fb is h = absurd cc
by_front decide columns a b Equal fa fb is h = h
by_front decide columns a b Greater fa fb is h =
    let more : b.front < a.front = ranked a.front b.front Greater is in
    ap (λ o. is_lt (ordering_then o (nat_cmp a.place b.place)))
    (cells_decide decide columns a.cells b.cells (omega (arith, more, fa, fb)))

pub sorted_by_cells : FrontsDecide → (columns : List Column) (entries : List Entry) →
    AreFronted columns entries → IsSorted (fronts_first columns) entries →
    IsSorted (entry_order columns) entries
sorted_by_cells decide columns entries fronted sorted k d low within =
    let a = get_or entries (k + 1) d in
    let b = get_or entries k d in
    by_front decide columns a b (nat_cmp a.front b.front)
    (fronted (k + 1) d (omega (arith, within))) (fronted k d (omega (arith, within))) refl
    (sorted k d low within)

-- The entries that are made have the fronts of their cells.
made_fronted : (columns : List Column) (meaning : ℕ → Meaning) (kinds : List KeyKind)
    (rows : List (List Value)) (n : ℕ) →
    AreFronted columns (map (entry_of columns meaning kinds rows) (range_with_len 0 n))
made_fronted columns meaning kinds rows n k d within =
    let at = get_or-map-range_with_len (entry_of columns meaning kinds rows) 0 n k k d
    (omega (arith, length-map-range_with_len (entry_of columns meaning kinds rows) 0 n))
    (omega arith) in
    subst (IsFronted columns) (sym at) refl

pub are_fronted : (columns sliced other : List Column) (meaning : ℕ → Meaning)
    (kinds : List KeyKind) (rows : List (List Value)) (n : ℕ) (entries : List Entry) →
    sliced ≡ columns → other ≡ columns →
    entries ≡ map (entry_of sliced meaning kinds rows) (range_with_len 0 n) →
    AreFronted other entries
are_fronted columns sliced other meaning kinds rows n entries are_sliced are_other made =
    subst (AreFronted other) (sym made)
    (subst (λ (cs : List Column). AreFronted cs
    (map (entry_of sliced meaning kinds rows) (range_with_len 0 n)))
    (are_sliced ∙ sym are_other) (made_fronted sliced meaning kinds rows n))
