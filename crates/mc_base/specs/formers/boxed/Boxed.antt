-- A boxed value as a shape that a recursive type may lead back through: the value itself.
use mathlib.Core.Path.{refl}
use mathlib.Core.Former.{Former, this, const, pair, via}
use base.Stored.{gnil}
use base.Fml.{ftrue}
use denote.RattleType.{RattleType}
use denote.Memory.{part_of}
use denote.RawPtr.{Ptr}
use denote.Sharing.{nothing}
use denote.HoleLaws.{Alike}
use denote.HolePlaces.{Recodes, struct_places, laid, one_value}
use denote.Hole.Fix.{over}
use denote.Param.Weighed.{Weighed}
use denote.Model.Placed.{view_places}
use Rattle.std.specs.declared.boxed.Box.{Box}
use Rattle.std.specs.contracts.boxed.Box as std_box
use Rattle.std.specs.declared.alloc.Global.{Global}
use Rattle.std.specs.contracts.alloc.Global as global
use Rattle.std.specs.contracts.impls.GlobalAllocator.TheImpl.{ghosts}
use Rattle.mc_base.specs.declared.boxed.Boxed.TheInside.{Inside}
use Rattle.mc_base.specs.declared.boxed.Boxed.TheView.{view, invariant}
use Rattle.mc_base.specs.contracts.boxed.Boxed as contract
use Rattle.mc_base.specs.contracts.boxed.Boxed.TheInside as inside

-- a box holds one value
abbrev pub the_former : Former {0} → Former {0}
the_former value = value

-- it weighs as much as that value
abbrev pub the_weighed : {value : Former {0}} → Weighed value → Weighed (the_former value)
the_weighed weight = weight

-- the field is a Box in the global allocator: an address, the allocator and the value
abbrev box_field : Former {0}
box_field = via (pair (const (Ptr × Global)) this) Inside (λ X at. ((at.inner.ptr, at.inner.alloc), at.inner.value))
    (λ X parts. record { inner = record { ptr = parts.0.0; alloc = parts.0.1; value = parts.1 } }) (λ X at. refl) (λ X parts. refl)

-- a box of the same address with another value
abbrev holding : {X Y : Type 0} → Box X Global → Y → Box Y Global
holding cell value = record { ptr = cell.ptr; alloc = cell.alloc; value = value }

abbrev row_of : RattleType → RattleType
row_of R = std_box.the_row R global.the_row ghosts

module _ (R S : RattleType) (h : R.Denot → S.Denot) where
  box_places : Alike R S h → Alike (row_of R) (row_of S) (λ cell. holding cell (h cell.value))
  unfolding part_of
  box_places alike = record {
    mir_same = λ i. (row_of (one_value R (alike.mir_same i) (λ _. ftrue) (λ _ _. nothing) gnil)).mir;
    own_same = λ cell i. (row_of (one_value R (alike.mir_same i) (alike.own_same cell.value i) (alike.shr_same cell.value i) gnil)).own_val (holding cell tt);
    shr_same = λ cell i. (row_of (one_value R (alike.mir_same i) (alike.own_same cell.value i) (alike.shr_same cell.value i) gnil)).shr_at (holding cell tt);
  }

  pub the_places : Alike R S h → Alike (contract.the_row R) (contract.the_row S) ((the_former this).map R.Denot S.Denot h)
  the_places alike =
      let fields = struct_places (inside.the_type R) (inside.the_type S) ((λ cell. holding cell (h cell.value)), tt) _ (λ _. refl) refl (laid _ _ _ (box_places alike), tt) in
      view_places box_field this view (λ X Y k at. refl) (λ X at. refl) R.Denot S.Denot h (contract.the_row R).coded (contract.the_row S).coded
      (invariant R.Denot) (invariant S.Denot) (λ _ p q. refl) (λ _ p q. refl) (λ _ _. tt) (λ _ _. tt)
      (over (inside.the_row R)) (over (inside.the_row S)) fields

  pub the_codes_placed : Recodes R S h → Recodes (contract.the_row R) (contract.the_row S) ((the_former this).map R.Denot S.Denot h)
  the_codes_placed recodes value = recodes value
