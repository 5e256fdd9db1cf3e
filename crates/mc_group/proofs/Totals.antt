-- The orders of values, rows, cells and entries are total.
use Rattle.std.proofs.Common.{ℕ, Bool, true, false, List, [], ◌∷◌, get_or, drop, refl}
use Rattle.std.specs.Cmp.{IsTotalOrder}
use Rattle.std.specs.Ordering.{nat_cmp, on, then_cmp}
use Rattle.std.proofs.lemmas.Cmp.{back_total, int_cmp_total, nat_cmp_total, on_total, then_total}
use Rattle.mc_order.specs.Meaning.{Meaning}
use Rattle.mc_order.specs.declared.pad.Pad.{Pad}
use Rattle.mc_order.specs.Order.{list_order}
use Rattle.mc_values.specs.declared.value.Value.{Value}
use Rattle.mc_group.specs.declared.column.Column.{Column}
use Rattle.mc_group.specs.declared.entry.Entry.{Entry}
use Rattle.mc_group.specs.declared.kind.KeyKind.{KeyKind}
use Rattle.mc_group.specs.declared.kind.KeyKind.TheVariants as kind
use Rattle.mc_group.specs.Cells.{ascending, cell_number, cell_weights, cells_order}
use Rattle.mc_group.specs.Cells.{entry_order, first_cell, rank, turned}
use Rattle.mc_group.specs.Extremes.{absence}
use Rattle.mc_group.specs.Order.{directed, first_value, number_in, order_within, place_order}
use Rattle.mc_group.specs.Order.{presence, row_order, value_order, weights_in}

module _ (lists : (pad : Pad) (space : ℕ) → IsTotalOrder (list_order pad space)) where
  within_total : (meaning : ℕ → Meaning) (of : KeyKind) → IsTotalOrder (order_within meaning of)
  within_total meaning kind.Int = on_total number_in int_cmp_total
  within_total meaning (kind.Text id) =
      on_total (weights_in (meaning id.0)) (lists (meaning id.0).pad (meaning id.0).space)

  pub value_total : (meaning : ℕ → Meaning) (of : KeyKind) → IsTotalOrder (value_order meaning of)
  value_total meaning of = then_total (on_total presence nat_cmp_total) (within_total meaning of)

  pub directed_total : (meaning : ℕ → Meaning) (of : KeyKind) (desc : Bool) →
      IsTotalOrder (directed desc (value_order meaning of))
  directed_total meaning of false = value_total meaning of
  directed_total meaning of true = back_total (value_total meaning of)

  pub absent_last_total : (meaning : ℕ → Meaning) (of : KeyKind) (desc : Bool) →
      IsTotalOrder (then_cmp (on absence nat_cmp) (directed desc (value_order meaning of)))
  absent_last_total meaning of desc =
      then_total (on_total absence nat_cmp_total) (directed_total meaning of desc)

  pub row_total : (meaning : ℕ → Meaning) (kinds : List KeyKind) (desc : List Bool) →
      IsTotalOrder (row_order meaning kinds desc)
  unfolding row_order
  row_total meaning [] desc = record {
    antisymm = λ x y. refl;
    trans = λ x y z e f. e;
    congr = λ x y z e. refl;
  }
  row_total meaning (of ∷ kinds) desc =
      then_total (on_total first_value (directed_total meaning of (get_or desc 0 false)))
      (on_total (drop 1) (row_total meaning kinds (drop 1 desc)))

  pub place_total : (meaning : ℕ → Meaning) (kinds : List KeyKind) (desc : List Bool)
      (rows : List (List Value)) → IsTotalOrder (place_order (row_order meaning kinds desc) rows)
  place_total meaning kinds desc rows =
      then_total (on_total (λ place. get_or rows place []) (row_total meaning kinds desc))
      nat_cmp_total

  ascending_total : (column : Column) → IsTotalOrder (ascending column)
  ascending_total column =
      then_total (on_total rank nat_cmp_total) (then_total (on_total cell_number int_cmp_total)
      (on_total cell_weights (lists column.pad column.space)))

  turned_total : (desc : Bool) (column : Column) → IsTotalOrder (turned desc (ascending column))
  turned_total false column = ascending_total column
  turned_total true column = back_total (ascending_total column)

  cells_total : (columns : List Column) → IsTotalOrder (cells_order columns)
  unfolding cells_order
  cells_total [] = record {
    antisymm = λ x y. refl;
    trans = λ x y z e f. e;
    congr = λ x y z e. refl;
  }
  cells_total (column ∷ columns) =
      then_total (on_total first_cell (turned_total column.desc column))
      (on_total (drop 1) (cells_total columns))

  pub entry_total : (columns : List Column) → IsTotalOrder (entry_order columns)
  entry_total columns =
      then_total (on_total (λ (entry : Entry). entry.cells) (cells_total columns))
      (on_total (λ (entry : Entry). entry.place) nat_cmp_total)
