-- Keys compare as the whole lists do.
use Rattle.std.proofs.Common.{◌≡◌, ℕ, zero, suc, ◌≤◌, List, [], ◌∷◌, ◌++◌, append-nil, refl, sym, ap, ◌∙◌, ⊎_elim, arith}
use Rattle.std.specs.declared.cmp.Ordering.{Ordering}
use Rattle.std.specs.declared.cmp.Ordering.TheVariants.{Less, Equal, Greater}
use Rattle.std.specs.Ordering.{nat_cmp, ordering_then, ordering_reverse}
use Rattle.std.specs.Cmp.{IsTotalOrder, nat_cmp_is}
use Rattle.std.specs.List.{repeat}
use Rattle.std.proofs.lemmas.Bool.Decides.{eqb_tells}
use Rattle.std.proofs.lemmas.Cmp.{ranked, tied_itself}
use Rattle.mc_order.specs.declared.pad.Pad.{Pad}
use Rattle.mc_order.specs.declared.pad.Pad.TheVariants.{PadSpace, NoPad}
use Rattle.mc_order.specs.Laws.{greatest_weight}
use Rattle.mc_order.specs.Order.{order_to_end, list_order}
use Rattle.mc_key.specs.Keys.{in_front, without_spaces, kept_list, top}
use Rattle.mc_key.specs.Laws.{SpacesFallAway, KeysAreOrdered, EqualKeysAreOneList}
use Rattle.mc_key.proofs.Kept.{in_front_space, in_front_other}

in_front_falls : (space weight n : ℕ) (kept list : List ℕ) →
    list ≡ kept ++ repeat n (space ∷ []) →
    (m : ℕ) × (weight ∷ list ≡ in_front space weight kept ++ repeat m (space ∷ []))
in_front_falls space weight n [] list e =
    ⊎_elim
    (λ t. (
      suc n,
      ap (λ w. w ∷ list) t.1 ∙ ap (λ l. space ∷ l) e
          ∙ sym (ap (λ k. k ++ repeat (suc n) (space ∷ [])) (in_front_space space weight t.1)),
    ))
    (λ f. (
      n,
      ap (λ l. weight ∷ l) e
          ∙ sym (ap (λ k. k ++ repeat n (space ∷ [])) (in_front_other space weight f.1)),
    ))
    (eqb_tells weight space)
in_front_falls space weight n (next ∷ more) list e = (n, ap (λ l. weight ∷ l) e)

pub spaces_fall_away : SpacesFallAway
unfolding without_spaces
spaces_fall_away space [] = (0, refl)
spaces_fall_away space (weight ∷ weights) =
    let rest = spaces_fall_away space weights in
    in_front_falls space weight rest.0 (without_spaces space weights) weights rest.1

cmp_same : (x : ℕ) → nat_cmp x x ≡ Equal
cmp_same x = sym (nat_cmp_is x x Equal refl)

spaces_to_end : (space n : ℕ) → order_to_end PadSpace space (repeat n (space ∷ [])) ≡ Equal
unfolding order_to_end
spaces_to_end space zero = refl
spaces_to_end space (suc n) = rw (cmp_same space, spaces_to_end space n) refl

end_to_spaces : (space n : ℕ) → list_order PadSpace space [] (repeat n (space ∷ [])) ≡ Equal
unfolding list_order
end_to_spaces space n = ap ordering_reverse (spaces_to_end space n)

-- What two lists begin with decides nothing: the law of `list_order`.
abbrev pub FrontsFallAway : Type 0
FrontsFallAway =
    (pad : Pad) (space : ℕ) (front a b : List ℕ) →
    list_order pad space (front ++ a) (front ++ b) ≡ list_order pad space a b

abbrev pub AreTotal : Type 0
AreTotal = (pad : Pad) (space : ℕ) → IsTotalOrder (list_order pad space)

kept_is_equal : FrontsFallAway → AreTotal → (pad : Pad) (space : ℕ) (list : List ℕ) →
    list_order pad space (kept_list pad space list) list ≡ Equal
kept_is_equal fronts total NoPad space list = tied_itself (total NoPad space) list
kept_is_equal fronts total PadSpace space list =
    let fall = spaces_fall_away space list in
    let kept = without_spaces space list in
    ap (λ l. list_order PadSpace space l list) (sym (append-nil kept))
    ∙ ap (list_order PadSpace space (kept ++ [])) fall.1
    ∙ fronts PadSpace space kept [] (repeat fall.0 (space ∷ []))
    ∙ end_to_spaces space fall.0

pub kept_compares : FrontsFallAway → AreTotal → (pad : Pad) (space : ℕ) (list other : List ℕ) →
    list_order pad space (kept_list pad space list) other ≡ list_order pad space list other
kept_compares fronts total pad space list other =
    (total pad space).congr (kept_list pad space list) list other
    (kept_is_equal fronts total pad space list)

pub keys_compare : FrontsFallAway → AreTotal → (pad : Pad) (space : ℕ) (list other : List ℕ) →
    list_order pad space (kept_list pad space list) (kept_list pad space other)
    ≡ list_order pad space list other
keys_compare fronts total pad space list other =
    let kept = kept_list pad space other in
    kept_compares fronts total pad space list kept
    ∙ (total pad space).antisymm list kept
    ∙ ap ordering_reverse (kept_compares fronts total pad space other list)
    ∙ sym ((total pad space).antisymm list other)

both_equal : (o r : Ordering) → ordering_then o r ≡ Equal → (o ≡ Equal) × (r ≡ Equal)
both_equal Less r h = absurd (let never : ⊥ = cc in never)
both_equal Equal r h = (refl, h)
both_equal Greater r h = absurd (let never : ⊥ = cc in never)

unreversed : (o : Ordering) → ordering_reverse o ≡ Equal → o ≡ Equal
unreversed Less h = absurd (let never : ⊥ = cc in never)
unreversed Equal h = refl
unreversed Greater h = absurd (let never : ⊥ = cc in never)

cmp_equal : (x y : ℕ) → nat_cmp x y ≡ Equal → x ≡ y
cmp_equal x y e = ranked x y Equal (sym e)

only_spaces : (space : ℕ) (list : List ℕ) → order_to_end PadSpace space list ≡ Equal →
    without_spaces space list ≡ []
unfolding order_to_end without_spaces
only_spaces space [] h = refl
only_spaces space (weight ∷ weights) h =
    let both = both_equal (nat_cmp weight space) _ h in
    ap (in_front space weight) (only_spaces space weights both.1)
    ∙ in_front_space space weight (cmp_equal weight space both.0)

without_none : (space : ℕ) → without_spaces space [] ≡ []
unfolding without_spaces
without_none space = refl

in_fronts : (space x y : ℕ) (xs ys : List ℕ) → x ≡ y →
    without_spaces space xs ≡ without_spaces space ys →
    without_spaces space (x ∷ xs) ≡ without_spaces space (y ∷ ys)
unfolding without_spaces
in_fronts space x y xs ys e h =
    ap (λ w. in_front space w (without_spaces space xs)) e ∙ ap (in_front space y) h

equal_without_spaces : (space : ℕ) (list other : List ℕ) →
    list_order PadSpace space list other ≡ Equal →
    without_spaces space list ≡ without_spaces space other
unfolding list_order
equal_without_spaces space [] other h =
    without_none space ∙ sym (only_spaces space other (unreversed _ h))
equal_without_spaces space (weight ∷ weights) [] h =
    only_spaces space (weight ∷ weights) h ∙ sym (without_none space)
equal_without_spaces space (x ∷ xs) (y ∷ ys) h =
    let both = both_equal (nat_cmp x y) _ h in
    in_fronts space x y xs ys (cmp_equal x y both.0) (equal_without_spaces space xs ys both.1)

pub equal_kept_alike : FrontsFallAway → AreTotal →
    ((space : ℕ) (a b : List ℕ) → list_order NoPad space a b ≡ Equal → a ≡ b) →
    (pad : Pad) (space : ℕ) (list other : List ℕ) →
    list_order pad space list other ≡ Equal → kept_list pad space list ≡ kept_list pad space other
equal_kept_alike fronts total same NoPad space list other h = same space list other h
equal_kept_alike fronts total same PadSpace space list other h =
    equal_without_spaces space list other h

pub kept_alike_equal : FrontsFallAway → AreTotal → (pad : Pad) (space : ℕ)
    (list other : List ℕ) → kept_list pad space list ≡ kept_list pad space other →
    list_order pad space list other ≡ Equal
kept_alike_equal fronts total pad space list other e =
    sym (keys_compare fronts total pad space list other)
    ∙ ap (λ l. list_order pad space l (kept_list pad space other)) e
    ∙ tied_itself (total pad space) (kept_list pad space other)

pub keys_are_ordered : AreTotal → KeysAreOrdered
keys_are_ordered total pad space =
    let order = total pad space in
    let kept = kept_list pad space in
    record {
      antisymm = λ x y. order.antisymm (kept x) (kept y);
      trans = λ x y z. order.trans (kept x) (kept y) (kept z);
      congr = λ x y z. order.congr (kept x) (kept y) (kept z);
    }

pub equal_keys : FrontsFallAway → AreTotal →
    ((space : ℕ) (a b : List ℕ) → list_order NoPad space a b ≡ Equal → a ≡ b) →
    EqualKeysAreOneList
equal_keys fronts total same a b same_pad same_space = (
  λ h. sym a.is_kept
      ∙ equal_kept_alike fronts total same a.pad a.space a.weights b.weights h
      ∙ ap (λ pad. kept_list pad a.space b.weights) same_pad
      ∙ ap (λ space. kept_list b.pad space b.weights) same_space ∙ b.is_kept,
  λ e. ap (list_order a.pad a.space a.weights) (sym e)
      ∙ tied_itself (total a.pad a.space) a.weights,
)

then_less : (o r : Ordering) → o ≡ Less → ordering_then o r ≡ Less
then_less o r e = ap (λ p. ordering_then p r) e

then_greater : (o r : Ordering) → o ≡ Greater → ordering_then o r ≡ Greater
then_greater o r e = ap (λ p. ordering_then p r) e

weight_below_top : (pad : Pad) (space weight : ℕ) (rest more : List ℕ) →
    weight ≤ greatest_weight →
    list_order pad space (weight ∷ rest) (top ∷ more) ≡ Less
unfolding list_order
weight_below_top pad space weight rest more h =
    then_less (nat_cmp weight top) (list_order pad space rest more)
    (sym (nat_cmp_is weight top Less (omega arith)))

pub top_is_above : FrontsFallAway → (pad : Pad) (space weight : ℕ)
    (front rest more : List ℕ) → weight ≤ greatest_weight →
    list_order pad space (front ++ weight ∷ rest) (front ++ top ∷ more) ≡ Less
top_is_above fronts pad space weight front rest more h =
    fronts pad space front (weight ∷ rest) (top ∷ more)
    ∙ weight_below_top pad space weight rest more h

end_below_top : (pad : Pad) (space : ℕ) (more : List ℕ) → space ≤ greatest_weight →
    list_order pad space [] (top ∷ more) ≡ Less
unfolding list_order order_to_end
end_below_top NoPad space more h = refl
end_below_top PadSpace space more h =
    ap ordering_reverse (then_greater (nat_cmp top space) (order_to_end PadSpace space more)
    (sym (nat_cmp_is top space Greater (omega arith))))

pub top_is_above_end : FrontsFallAway → (pad : Pad) (space : ℕ) (front more : List ℕ) →
    space ≤ greatest_weight → list_order pad space front (front ++ top ∷ more) ≡ Less
top_is_above_end fronts pad space front more h =
    ap (λ l. list_order pad space l (front ++ top ∷ more)) (sym (append-nil front))
    ∙ fronts pad space front [] (top ∷ more) ∙ end_below_top pad space more h
