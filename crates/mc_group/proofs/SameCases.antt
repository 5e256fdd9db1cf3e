-- The cases of sameness, and the classes that it makes.
use Rattle.std.proofs.Common.{◌≡◌, ℕ, true, List, [], ◌∷◌, get_or}
use Rattle.std.proofs.Common.{drop, refl, sym, ap, ◌∙◌}
use Rattle.std.specs.Cmp.{IsTotalOrder}
use Rattle.std.specs.List.{position_or_len}
use Rattle.std.specs.Ordering.{is_eq}
use Rattle.std.proofs.lemmas.Cmp.{and_equiv, eq_by_cmp_equiv, on_equiv}
use Rattle.std.proofs.lemmas.List.{get_or-map}
use Rattle.mc_order.specs.Meaning.{Meaning}
use Rattle.mc_order.specs.declared.pad.Pad.{Pad}
use Rattle.mc_order.specs.Order.{list_order}
use Rattle.mc_values.specs.declared.value.Value.{Value}
use Rattle.mc_values.specs.declared.value.Value.TheVariants as value
use Rattle.mc_group.specs.declared.kind.KeyKind.{KeyKind}
use Rattle.mc_group.specs.declared.kind.KeyKind.TheVariants as kind
use Rattle.mc_group.specs.Groups.{firsts, same_row, same_value}
use Rattle.mc_group.specs.Kinds.{IsOfKind}
use Rattle.mc_group.specs.Laws.{GroupsAreClasses, IsSame, OneListIsSorted, SameIsEquivalence}
use Rattle.mc_group.specs.Order.{first_value, place_order, row_order}
use Rattle.mc_group.proofs.GroupNumbers.{one_number, same_number}
use Rattle.mc_group.proofs.OneOrder.{one_order}
use Rattle.mc_group.proofs.SameRows.{equal_numbers, false_is_not, nulls_alike, numbers_equal}
use Rattle.mc_group.proofs.SameRows.{to_equal}
use Rattle.mc_group.proofs.Totals.{place_total, value_total}

pub to_same : (meaning : ℕ → Meaning) (of : KeyKind) (v w : Value) → IsOfKind meaning of v →
    IsOfKind meaning of w → same_value meaning of v w ≡ true → IsSame meaning of v w
to_same meaning of value.Null value.Null hv hw e = tt
to_same meaning of value.Null (value.Int y) hv hw e = false_is_not e
to_same meaning of value.Null (value.Str other more) hv hw e = false_is_not e
to_same meaning of (value.Int x) value.Null hv hw e = false_is_not e
to_same meaning of (value.Str set text) value.Null hv hw e = false_is_not e
to_same meaning kind.Int (value.Int x) (value.Int y) hv hw e = numbers_equal x y _ refl e
to_same meaning kind.Int (value.Int x) (value.Str other more) hv hw e = absurd hw
to_same meaning kind.Int (value.Str set text) (value.Int y) hv hw e = absurd hv
to_same meaning kind.Int (value.Str set text) (value.Str other more) hv hw e = absurd hv
to_same meaning (kind.Text id) (value.Int x) (value.Int y) hv hw e = absurd hv
to_same meaning (kind.Text id) (value.Int x) (value.Str other more) hv hw e = absurd hv
to_same meaning (kind.Text id) (value.Str set text) (value.Int y) hv hw e = absurd hw
to_same meaning (kind.Text id) (value.Str set text) (value.Str other more) hv hw e =
    to_equal _ e

pub from_same : (meaning : ℕ → Meaning) (of : KeyKind) (v w : Value) → IsSame meaning of v w →
    same_value meaning of v w ≡ true
from_same meaning of value.Null value.Null e = nulls_alike meaning of
from_same meaning kind.Int value.Null (value.Int y) e = absurd e
from_same meaning kind.Int value.Null (value.Str other more) e = absurd e
from_same meaning kind.Int (value.Int x) value.Null e = absurd e
from_same meaning kind.Int (value.Str set text) value.Null e = absurd e
from_same meaning (kind.Text id) value.Null (value.Int y) e = absurd e
from_same meaning (kind.Text id) value.Null (value.Str other more) e = absurd e
from_same meaning (kind.Text id) (value.Int x) value.Null e = absurd e
from_same meaning (kind.Text id) (value.Str set text) value.Null e = absurd e
from_same meaning kind.Int (value.Int x) (value.Int y) e = equal_numbers x y e
from_same meaning kind.Int (value.Int x) (value.Str other more) e = absurd e
from_same meaning kind.Int (value.Str set text) (value.Int y) e = absurd e
from_same meaning kind.Int (value.Str set text) (value.Str other more) e = absurd e
from_same meaning (kind.Text id) (value.Int x) (value.Int y) e = absurd e
from_same meaning (kind.Text id) (value.Int x) (value.Str other more) e = absurd e
from_same meaning (kind.Text id) (value.Str set text) (value.Int y) e = absurd e
from_same meaning (kind.Text id) (value.Str set text) (value.Str other more) e = ap is_eq e

module _ (lists : (pad : Pad) (space : ℕ) → IsTotalOrder (list_order pad space)) where
  pub same_equivalence : SameIsEquivalence
  unfolding same_row
  same_equivalence meaning [] = record {
    refl = λ x. refl;
    symm = λ x y. refl;
    congr = λ x y z e. refl;
  }
  same_equivalence meaning (of ∷ kinds) =
      and_equiv (on_equiv first_value (eq_by_cmp_equiv (value_total lists meaning of)))
      (on_equiv (drop 1) (same_equivalence meaning kinds))

  pub one_list : OneListIsSorted
  one_list meaning kinds desc rows places others a b =
      one_order (place_order (row_order meaning kinds desc) rows)
      (place_total lists meaning kinds desc rows).antisymm _ places others a.all b.all
      a.ascending b.ascending

  pub groups_are_classes : GroupsAreClasses
  groups_are_classes meaning kinds rows i j hi hj =
      let same = same_row meaning kinds in
      let o = same_equivalence meaning kinds in
      let number = λ (row : List Value). position_or_len (same row) (firsts same rows) in
      let a = get_or-map number rows i [] 0 hi in
      let b = get_or-map number rows j [] 0 hj in (
        λ e. one_number same o rows i j [] hi hj (sym a ∙ e ∙ b),
        λ e. a ∙ same_number same o (firsts same rows) (get_or rows i []) (get_or rows j []) e
            ∙ sym b,
      )
