-- Rows are the same exactly where they have one frame.
use Rattle.std.proofs.Common.{◌≡◌, ℕ, ◌+◌, ◌<◌, Bool, true, false, ◌&&◌, ℤ, pos, List, [], ◌∷◌}
use Rattle.std.proofs.Common.{◌++◌, length, get_or, map, take, drop, refl, sym, ap, ◌∙◌, append-nil}
use Rattle.std.specs.declared.cmp.Ordering.{Ordering}
use Rattle.std.specs.declared.cmp.Ordering.TheVariants.{Less, Equal, Greater}
use Rattle.std.specs.Cmp.{both_ways}
use Rattle.std.specs.List.{flat_map}
use Rattle.std.specs.Ordering.{int_cmp, is_eq}
use Rattle.std.specs.Str.{bytes_eq}
use Rattle.std.proofs.lemmas.Cmp.{int_cmp_total, int_ranked, nat_list_eq_equiv, tied_itself}
use Rattle.std.proofs.lemmas.Grind.{flat_map-append}
use Rattle.std.proofs.lemmas.Slice.Eq.{bytes_eq-Decides}
use Rattle.mc_key.specs.Keys.{kept_list}
use Rattle.mc_key.specs.Laws.{EqualAreKeptAlike}
use Rattle.mc_order.specs.Meaning.{Meaning}
use Rattle.mc_order.specs.declared.pad.Pad.{Pad}
use Rattle.mc_order.specs.Order.{list_order}
use Rattle.mc_values.specs.declared.value.Value.{Value}
use Rattle.mc_values.specs.declared.value.Value.TheVariants as value
use Rattle.mc_group.specs.declared.cell.Cell.{Cell}
use Rattle.mc_group.specs.declared.cell.Cell.TheVariants as cell
use Rattle.mc_group.specs.declared.kind.KeyKind.{KeyKind}
use Rattle.mc_group.specs.declared.kind.KeyKind.TheVariants as kind
use Rattle.mc_group.specs.Cells.{each_with}
use Rattle.mc_group.specs.Frames.{cell_frame, key_cell, row_frame}
use Rattle.mc_group.specs.Groups.{group_numbers, same_row, same_value}
use Rattle.mc_group.specs.Order.{first_value, weights_in}
use Rattle.mc_group.proofs.Cells.{no_weights}
use Rattle.mc_group.proofs.Delimited.{delimited}
use Rattle.mc_group.proofs.GroupNumbers.{group_numbers-map, numbers_are, numbers_behind}
use Rattle.mc_group.proofs.Lists.{each_with_more}

pub to_equal : (o : Ordering) → is_eq o ≡ true → o ≡ Equal
to_equal Less e = absurd cc
to_equal Equal e = refl
to_equal Greater e = absurd cc

pub numbers_equal : (x y : ℤ) (o : Ordering) → o ≡ int_cmp x y → is_eq o ≡ true → x ≡ y
numbers_equal x y Less h e = absurd cc
numbers_equal x y Equal h e = int_ranked x y Equal h
numbers_equal x y Greater h e = absurd cc

pub equal_numbers : (x y : ℤ) → x ≡ y → is_eq (int_cmp x y) ≡ true
equal_numbers x y e =
    ap (λ z. is_eq (int_cmp x z)) (sym e) ∙ ap is_eq (tied_itself int_cmp_total x)

same_numbers : (x y : ℤ) → is_eq (int_cmp x y) ≡ true → cell.Number x ≡ cell.Number y
same_numbers x y e = ap (λ z. cell.Number z) (numbers_equal x y (int_cmp x y) refl e)

number_of : Cell → ℤ
number_of (cell.Number x) = x
number_of it = pos 0

numbers_same : (x y : ℤ) → cell.Number x ≡ cell.Number y → is_eq (int_cmp x y) ≡ true
unfolding number_of
numbers_same x y e = equal_numbers x y (ap number_of e)

weights_of : Cell → List ℕ
weights_of (cell.Weights w) = w
weights_of it = []

pub false_is_not : {P : Type 0} → false ≡ true → P
false_is_not e = absurd cc

pub nulls_alike : (meaning : ℕ → Meaning) (of : KeyKind) →
    same_value meaning of value.Null value.Null ≡ true
nulls_alike meaning kind.Int = refl
nulls_alike meaning (kind.Text id) =
    let m = meaning id.0 in ap is_eq (no_weights m.pad m.space)

module _ (alike : EqualAreKeptAlike) where
  same_weights : (pad : Pad) (space : ℕ) (v w : List ℕ) → is_eq (list_order pad space v w) ≡ true →
      cell.Weights (kept_list pad space v) ≡ cell.Weights (kept_list pad space w)
  same_weights pad space v w e =
      ap (λ l. cell.Weights l) ((alike pad space v w).0 (to_equal (list_order pad space v w) e))

  weights_same : (pad : Pad) (space : ℕ) (v w : List ℕ) →
      cell.Weights (kept_list pad space v) ≡ cell.Weights (kept_list pad space w) →
      is_eq (list_order pad space v w) ≡ true
  unfolding weights_of
  weights_same pad space v w e = ap is_eq ((alike pad space v w).1 (ap weights_of e))

  -- The same values are grouped by one cell.
  to_cell : (meaning : ℕ → Meaning) (of : KeyKind) (v w : Value) →
      same_value meaning of v w ≡ true → key_cell meaning of v ≡ key_cell meaning of w
  to_cell meaning of value.Null value.Null e = refl
  to_cell meaning of value.Null (value.Int y) e = false_is_not e
  to_cell meaning of value.Null (value.Str other more) e = false_is_not e
  to_cell meaning of (value.Int x) value.Null e = false_is_not e
  to_cell meaning of (value.Str set text) value.Null e = false_is_not e
  to_cell meaning kind.Int (value.Int x) (value.Int y) e = same_numbers x y e
  to_cell meaning kind.Int (value.Int x) (value.Str other more) e = same_numbers x (pos 0) e
  to_cell meaning kind.Int (value.Str set text) (value.Int y) e = same_numbers (pos 0) y e
  to_cell meaning kind.Int (value.Str set text) (value.Str other more) e = refl
  to_cell meaning (kind.Text id) (value.Int x) (value.Int y) e = refl
  to_cell meaning (kind.Text id) (value.Int x) (value.Str other more) e =
      let m = meaning id.0 in
      same_weights m.pad m.space [] (weights_in m (value.Str other more)) e
  to_cell meaning (kind.Text id) (value.Str set text) (value.Int y) e =
      let m = meaning id.0 in same_weights m.pad m.space (weights_in m (value.Str set text)) [] e
  to_cell meaning (kind.Text id) (value.Str set text) (value.Str other more) e =
      let m = meaning id.0 in
      same_weights m.pad m.space (weights_in m (value.Str set text))
      (weights_in m (value.Str other more)) e

  from_cell : (meaning : ℕ → Meaning) (of : KeyKind) (v w : Value) →
      key_cell meaning of v ≡ key_cell meaning of w → same_value meaning of v w ≡ true
  from_cell meaning of value.Null value.Null e = nulls_alike meaning of
  from_cell meaning kind.Int value.Null (value.Int y) e = cc
  from_cell meaning kind.Int value.Null (value.Str other more) e = cc
  from_cell meaning kind.Int (value.Int x) value.Null e = cc
  from_cell meaning kind.Int (value.Str set text) value.Null e = cc
  from_cell meaning kind.Int (value.Int x) (value.Int y) e = numbers_same x y e
  from_cell meaning kind.Int (value.Int x) (value.Str other more) e = numbers_same x (pos 0) e
  from_cell meaning kind.Int (value.Str set text) (value.Int y) e = numbers_same (pos 0) y e
  from_cell meaning kind.Int (value.Str set text) (value.Str other more) e = refl
  from_cell meaning (kind.Text id) value.Null (value.Int y) e = cc
  from_cell meaning (kind.Text id) value.Null (value.Str other more) e = cc
  from_cell meaning (kind.Text id) (value.Int x) value.Null e = cc
  from_cell meaning (kind.Text id) (value.Str set text) value.Null e = cc
  from_cell meaning (kind.Text id) (value.Int x) (value.Int y) e =
      let m = meaning id.0 in weights_same m.pad m.space [] [] e
  from_cell meaning (kind.Text id) (value.Int x) (value.Str other more) e =
      let m = meaning id.0 in
      weights_same m.pad m.space [] (weights_in m (value.Str other more)) e
  from_cell meaning (kind.Text id) (value.Str set text) (value.Int y) e =
      let m = meaning id.0 in weights_same m.pad m.space (weights_in m (value.Str set text)) [] e
  from_cell meaning (kind.Text id) (value.Str set text) (value.Str other more) e =
      let m = meaning id.0 in
      weights_same m.pad m.space (weights_in m (value.Str set text))
      (weights_in m (value.Str other more)) e

  both_left : (a b : Bool) → (a && b) ≡ true → a ≡ true
  both_left true b e = refl
  both_left false b e = e

  both_right : (a b : Bool) → (a && b) ≡ true → b ≡ true
  both_right true b e = e
  both_right false b e = absurd cc

  to_frame : (meaning : ℕ → Meaning) (kinds : List KeyKind) (one other : List Value) →
      same_row meaning kinds one other ≡ true →
      row_frame meaning kinds one ≡ row_frame meaning kinds other
  unfolding same_row each_with
  to_frame meaning [] one other e = refl
  to_frame meaning (of ∷ kinds) one other e =
      let v = first_value one in
      let w = first_value other in
      let here = to_cell meaning of v w
      (both_left (same_value meaning of v w)
      (same_row meaning kinds (drop 1 one) (drop 1 other)) e) in
      let rest = to_frame meaning kinds (drop 1 one) (drop 1 other)
      (both_right (same_value meaning of v w)
      (same_row meaning kinds (drop 1 one) (drop 1 other)) e) in
      ap (λ c. cell_frame c ++ row_frame meaning kinds (drop 1 one)) here
      ∙ ap (λ l. cell_frame (key_cell meaning of w) ++ l) rest

  from_frame : (meaning : ℕ → Meaning) (kinds : List KeyKind) (one other : List Value) →
      row_frame meaning kinds one ≡ row_frame meaning kinds other →
      same_row meaning kinds one other ≡ true
  unfolding same_row each_with
  from_frame meaning [] one other e = refl
  from_frame meaning (of ∷ kinds) one other e =
      let v = first_value one in
      let w = first_value other in
      let parts = delimited (key_cell meaning of v) (key_cell meaning of w)
      (row_frame meaning kinds (drop 1 one)) (row_frame meaning kinds (drop 1 other)) e in
      let here = from_cell meaning of v w parts.0 in
      let rest = from_frame meaning kinds (drop 1 one) (drop 1 other) parts.1 in
      ap (λ b. b && same_row meaning kinds (drop 1 one) (drop 1 other)) here ∙ rest

  frames_tell : (meaning : ℕ → Meaning) (kinds : List KeyKind) (one other : List Value) →
      bytes_eq (row_frame meaning kinds one) (row_frame meaning kinds other)
      ≡ same_row meaning kinds one other
  frames_tell meaning kinds one other =
      let x = row_frame meaning kinds one in
      let y = row_frame meaning kinds other in
      both_ways (bytes_eq x y) (same_row meaning kinds one other)
      (λ e. from_frame meaning kinds one other ((bytes_eq-Decides x y).0 e))
      (λ e. (bytes_eq-Decides x y).1 (to_frame meaning kinds one other e))

  -- The numbers by frames are those of the rows' groups.
  pub numbers_of_rows : (meaning : ℕ → Meaning) (kinds : List KeyKind) (rows : List (List Value)) →
      numbers_behind bytes_eq [] (map (row_frame meaning kinds) rows)
      ≡ group_numbers (same_row meaning kinds) rows
  numbers_of_rows meaning kinds rows =
      numbers_are bytes_eq nat_list_eq_equiv (map (row_frame meaning kinds) rows)
      ∙ group_numbers-map (row_frame meaning kinds) bytes_eq rows
      ∙ ap (λ (e : List Value → List Value → Bool). group_numbers e rows)
      (λ i x y. frames_tell meaning kinds x y i)

-- One value more in a frame.
pub frame_push : (meaning : ℕ → Meaning) (kinds : List KeyKind) (row : List Value) (i : ℕ)
    (d : KeyKind) (done new : List ℕ) → i < length kinds →
    done ≡ row_frame meaning (take i kinds) row →
    new ≡ done ++ cell_frame (key_cell meaning (get_or kinds i d) (get_or row i value.Null)) →
    new ≡ row_frame meaning (take (i + 1) kinds) row
frame_push meaning kinds row i d done new within before pushed =
    let c = key_cell meaning (get_or kinds i d) (get_or row i value.Null) in
    let cells = each_with (key_cell meaning) value.Null (take i kinds) row in
    pushed ∙ ap (λ l. l ++ cell_frame c) before
    ∙ sym (ap (flat_map cell_frame)
    (each_with_more (key_cell meaning) value.Null kinds row i d within)
    ∙ flat_map-append cell_frame cells (c ∷ [])
    ∙ ap (λ l. flat_map cell_frame cells ++ l) (append-nil (cell_frame c)))
