-- A list of values as a shape that a recursive type may lead back through: its members in order.
use mathlib.Core.Path.{◌≡◌, refl, sym}
use mathlib.Core.List.{List, []}
use mathlib.Core.Former.{Former, this, list, via, children}
use base.Stored.{code_map}
use denote.RattleType.{RattleType}
use denote.HoleLaws.{Alike}
use denote.HolePlaces.{Recodes, struct_places, laid}
use denote.Hole.Carrier.{listed, list-listed}
use denote.Hole.Fix.{over}
use denote.Param.Weighed.{Weighed, w_list}
use denote.Model.Placed.{view_places}
use Rattle.std.specs.formers.vec.Vec as vec
use Rattle.std.specs.declared.alloc.Global.{Global}
use Rattle.std.specs.contracts.alloc.Global as global
use Rattle.std.specs.contracts.impls.GlobalAllocator.TheImpl.{ghosts}
use Rattle.mc_base.specs.declared.list.List.TheInside.{Inside}
use Rattle.mc_base.specs.declared.list.List.TheView.{view, invariant}
use Rattle.mc_base.specs.contracts.list.List as contract
use Rattle.mc_base.specs.contracts.list.List.TheInside as inside

-- a list holds one value at each place
abbrev pub the_former : Former {0} → Former {0}
the_former member = list member

-- it weighs as the heaviest of them
abbrev pub the_weighed : {member : Former {0}} → Weighed member → Weighed (the_former member)
the_weighed weights = w_list weights

-- the list of no values
abbrev pub the_empty : List ⊥
the_empty = []

-- its members in order
abbrev pub the_items : (X : Type 0) → List X → List X
the_items X members = members

pub the_items_listed : (X : Type 0) (members : List X) → listed _ (children (the_former this) X members) ≡ the_items X members
the_items_listed X members = list-listed X members

-- the field is a Vec in the global allocator
abbrev vec_field : Former {0}
vec_field = via (vec.the_former this Global) Inside (λ X at. at.members) (λ X made. record { members = made }) (λ X at. refl) (λ X made. refl)

module _ (R S : RattleType) (h : R.Denot → S.Denot) where
  pub the_places : Alike R S h → Alike (contract.the_row R) (contract.the_row S) ((the_former this).map R.Denot S.Denot h)
  the_places alike =
      let fields = struct_places (inside.the_type R) (inside.the_type S) (vec.mapped h, tt) _ (λ _. refl) refl (laid _ _ _ (vec.the_places global.the_row ghosts R S h alike), tt) in
      view_places vec_field (list this) view (λ X Y k at. refl) (λ X at. refl) R.Denot S.Denot h (contract.the_row R).coded (contract.the_row S).coded
      (invariant R.Denot) (invariant S.Denot) (λ _ p q. refl) (λ _ p q. refl) (λ _ _. tt) (λ _ _. tt)
      (over (inside.the_row R)) (over (inside.the_row S)) fields

  pub the_codes_placed : Recodes R S h → Recodes (contract.the_row R) (contract.the_row S) ((the_former this).map R.Denot S.Denot h)
  the_codes_placed recodes members = sym (code_map R.coded.code S.coded.code h (λ x. sym (recodes x)) members)
