-- Lists in the order of a collation: what stands not above what.
use Rattle.std.proofs.Common.{◌≡◌, ◌≢◌, ℕ, ◌<◌, Bool, true, false, List, []}
use Rattle.std.proofs.Common.{◌∷◌}
use Rattle.std.proofs.Common.{◌++◌, append-nil, refl, sym, ap, ◌∙◌}
use Rattle.std.proofs.Common.{get_or, arith, is_gt, is_lt}
use Rattle.std.specs.Cmp.{IsTotalOrder, IsStrictWeakOrder, nat_cmp_is}
use Rattle.std.specs.List.{best_of, Contains}
use Rattle.std.specs.declared.cmp.Ordering.{Ordering}
use Rattle.std.specs.declared.cmp.Ordering.TheVariants.{Less, Equal, Greater}
use Rattle.std.specs.Ordering.{nat_cmp, ordering_then, ordering_reverse}
use Rattle.std.proofs.lemmas.Cmp.{ranked, tied_itself, upto}
use Rattle.std.proofs.lemmas.List.{get_or_default}
use Rattle.std.proofs.lemmas.List.MinMax.{IsFirstBest-from_best_of, ranks_by}
use Rattle.mc_order.specs.declared.pad.Pad.{Pad}
use Rattle.mc_order.specs.declared.pad.Pad.TheVariants.{PadSpace, NoPad}
use Rattle.mc_order.specs.Order.{order_to_end, list_order}
use Rattle.mc_range.specs.Candidates.{extreme}

-- What two lists begin with decides nothing: the law of `list_order`.
abbrev pub FrontsFallAway : Type 0
FrontsFallAway =
    (pad : Pad) (space : ℕ) (front a b : List ℕ) →
    list_order pad space (front ++ a) (front ++ b) ≡ list_order pad space a b

abbrev pub AreTotal : Type 0
AreTotal = (pad : Pad) (space : ℕ) → IsTotalOrder (list_order pad space)

-- One list is not above the other.
abbrev pub NotAbove : Pad → ℕ → List ℕ → List ℕ → Type 0
NotAbove pad space a b = is_gt (list_order pad space a b) ≡ false

pub not_above-trans : AreTotal → (pad : Pad) (space : ℕ) (a b c : List ℕ) →
    NotAbove pad space a b → NotAbove pad space b c → NotAbove pad space a c
not_above-trans total pad space a b c h k = upto (total pad space) a b c h k

pub not_above-itself : AreTotal → (pad : Pad) (space : ℕ) (a : List ℕ) → NotAbove pad space a a
not_above-itself total pad space a = ap is_gt (tied_itself (total pad space) a)

gt-reversed : (o : Ordering) → is_gt (ordering_reverse o) ≡ is_lt o
gt-reversed Less = refl
gt-reversed Equal = refl
gt-reversed Greater = refl

-- Not above is not below, the other way round.
pub not_above-back : AreTotal → (pad : Pad) (space : ℕ) (a b : List ℕ) →
    is_lt (list_order pad space b a) ≡ false → NotAbove pad space a b
not_above-back total pad space a b h =
    ap is_gt ((total pad space).antisymm a b) ∙ gt-reversed (list_order pad space b a) ∙ h

pub not_above-forth : AreTotal → (pad : Pad) (space : ℕ) (a b : List ℕ) →
    NotAbove pad space a b → is_lt (list_order pad space b a) ≡ false
not_above-forth total pad space a b h =
    sym (gt-reversed (list_order pad space b a)) ∙ ap is_gt (sym ((total pad space).antisymm a b))
    ∙ h

pub lt_false : (o : Ordering) → is_lt o ≡ false → o ≢ Less
lt_false Less h e = cc
lt_false Equal h e = cc
lt_false Greater h e = cc

pub gt_false : (o : Ordering) → is_gt o ≡ false → o ≢ Greater
gt_false Less h e = cc
gt_false Equal h e = cc
gt_false Greater h e = cc

pub gt_from : (o : Ordering) → o ≢ Greater → is_gt o ≡ false
gt_from Less h = refl
gt_from Equal h = refl
gt_from Greater h = absurd (h refl)

pub lt_from : (o : Ordering) → o ≢ Less → is_lt o ≡ false
lt_from Less h = absurd (h refl)
lt_from Equal h = refl
lt_from Greater h = refl

pub then_first : (o r : Ordering) → (o ≡ Equal → ⊥) → ordering_then o r ≡ o
then_first Less r other = refl
then_first Greater r other = refl
then_first Equal r other = absurd (other refl)

pub then_not_gt : (o r : Ordering) → is_gt o ≡ false → is_gt r ≡ false →
    is_gt (ordering_then o r) ≡ false
then_not_gt Less r h k = refl
then_not_gt Equal r h k = k
then_not_gt Greater r h k = h

-- If the first of two orders decides, so it does for the weaker facts.
pub then_gt_back : (o r : Ordering) → is_gt (ordering_then o r) ≡ false → is_gt o ≡ false
then_gt_back Less r h = refl
then_gt_back Equal r h = refl
then_gt_back Greater r h = h

pub then_lt_back : (o r : Ordering) → is_lt (ordering_then o r) ≡ false → is_lt o ≡ false
then_lt_back Less r h = h
then_lt_back Equal r h = refl
then_lt_back Greater r h = refl

pub then_equal_back : (o r : Ordering) → ordering_then o r ≡ Equal → o ≡ Equal
then_equal_back Less r h = h
then_equal_back Equal r h = refl
then_equal_back Greater r h = h

cmp_equal : (x y : ℕ) → nat_cmp x y ≡ Equal → x ≡ y
cmp_equal x y e = ranked x y Equal (sym e)

first_decides : (pad : Pad) (space a b : ℕ) (xs ys : List ℕ) → (a ≡ b → ⊥) →
    list_order pad space (a ∷ xs) (b ∷ ys) ≡ nat_cmp a b
unfolding list_order
first_decides pad space a b xs ys other =
    then_first (nat_cmp a b) (list_order pad space xs ys) (λ e. other (cmp_equal a b e))

-- Behind the same front the first weights that differ decide.
pub differ_order : FrontsFallAway → (pad : Pad) (space : ℕ) (front : List ℕ) (a b : ℕ)
    (xs ys : List ℕ) → (a ≡ b → ⊥) →
    list_order pad space (front ++ a ∷ xs) (front ++ b ∷ ys) ≡ nat_cmp a b
differ_order fronts pad space front a b xs ys other =
    fronts pad space front (a ∷ xs) (b ∷ ys) ∙ first_decides pad space a b xs ys other

-- A number below a weight stands before what goes on with it.
pub below_weight : FrontsFallAway → (pad : Pad) (space : ℕ) (front : List ℕ) (a b : ℕ)
    (xs ys : List ℕ) → a < b →
    list_order pad space (front ++ a ∷ xs) (front ++ b ∷ ys) ≡ Less
below_weight fronts pad space front a b xs ys less =
    differ_order fronts pad space front a b xs ys (λ e. let h : ⊥ = omega arith in h)
    ∙ sym (nat_cmp_is a b Less less)

-- What is behind a front against the front alone.
pub front_alone : FrontsFallAway → (pad : Pad) (space : ℕ) (front more : List ℕ) →
    list_order pad space (front ++ more) front ≡ list_order pad space more []
front_alone fronts pad space front more =
    ap (list_order pad space (front ++ more)) (sym (append-nil front))
    ∙ fronts pad space front more []

pub longer_unpadded : FrontsFallAway → (space : ℕ) (front : List ℕ) (c : ℕ) (more : List ℕ) →
    list_order NoPad space (front ++ c ∷ more) front ≡ Greater
unfolding list_order order_to_end
longer_unpadded fronts space front c more = front_alone fronts NoPad space front (c ∷ more)

then-assoc : (o p q r : Ordering) → p ≡ ordering_then q r →
    ordering_then o p ≡ ordering_then (ordering_then o q) r
then-assoc Less p q r h = refl
then-assoc Equal p q r h = h
then-assoc Greater p q r h = refl

to_end-joined : (space : ℕ) (a b : List ℕ) → order_to_end PadSpace space (a ++ b)
    ≡ ordering_then (order_to_end PadSpace space a) (order_to_end PadSpace space b)
unfolding order_to_end
to_end-joined space [] b = refl
to_end-joined space (x ∷ a) b =
    then-assoc (nat_cmp x space) _ _ _ (to_end-joined space a b)

against_nothing : (pad : Pad) (space : ℕ) (a : List ℕ) →
    list_order pad space a [] ≡ order_to_end pad space a
unfolding list_order order_to_end
against_nothing pad space [] = refl
against_nothing pad space (x ∷ a) = refl

spaces_above : (space : ℕ) → 0 < space → order_to_end PadSpace space (0 ∷ []) ≡ Less
unfolding order_to_end
spaces_above space some = ap (λ o. ordering_then o Equal) (sym (nat_cmp_is 0 space Less some))

-- Padded, a separator behind a front stands before the front alone.
pub separator_below : FrontsFallAway → (space : ℕ) (front : List ℕ) → 0 < space →
    list_order PadSpace space (front ++ 0 ∷ []) front ≡ Less
separator_below fronts space front some =
    front_alone fronts PadSpace space front (0 ∷ []) ∙ against_nothing PadSpace space (0 ∷ [])
    ∙ spaces_above space some

-- Padded, what two lists have behind a front decides in turn against the front alone.
pub more_padded : FrontsFallAway → (space : ℕ) (front a b : List ℕ) →
    list_order PadSpace space (front ++ (a ++ b)) front
    ≡ ordering_then (list_order PadSpace space (front ++ a) front) (list_order PadSpace space b [])
more_padded fronts space front a b =
    front_alone fronts PadSpace space front (a ++ b) ∙ against_nothing PadSpace space (a ++ b)
    ∙ to_end-joined space a b
    ∙ ap (λ o. ordering_then o (order_to_end PadSpace space b))
    (sym (front_alone fronts PadSpace space front a ∙ against_nothing PadSpace space a))
    ∙ ap (ordering_then (list_order PadSpace space (front ++ a) front))
    (sym (against_nothing PadSpace space b))

-- The best of lists: none wins against it.
wins_lt : AreTotal → (pad : Pad) (space : ℕ) →
    IsStrictWeakOrder (λ a b. is_lt (list_order pad space a b))
wins_lt total pad space = ranks_by (total pad space) (λ list. list)

gt_one_way : (o : Ordering) → is_gt o ≡ true → is_gt (ordering_reverse o) ≡ false
gt_one_way Less h = cc
gt_one_way Equal h = cc
gt_one_way Greater h = refl

wins_gt : AreTotal → (pad : Pad) (space : ℕ) →
    IsStrictWeakOrder (λ a b. is_gt (list_order pad space a b))
wins_gt total pad space = record {
  one_way = λ x y h. ap is_gt ((total pad space).antisymm y x)
      ∙ gt_one_way (list_order pad space x y) h;
  chain = λ x y z h k. upto (total pad space) x y z h k;
}

best_stays : {beats : List ℕ → List ℕ → Bool} → IsStrictWeakOrder beats →
    (list : List ℕ) (lists : List (List ℕ)) (one : List ℕ) → Contains (list ∷ lists) one →
    beats one (best_of beats list lists) ≡ false
best_stays {beats} order list lists one among =
    let best = IsFirstBest-from_best_of order list lists in
    let here : get_or (list ∷ lists) among.0 list ≡ one =
    get_or_default (list ∷ lists) among.0 list one among.1 ∙ among.2 in
    ap (λ a. beats a (best_of beats list lists)) (sym here)
    ∙ ap (beats (get_or (list ∷ lists) among.0 list)) (sym best.2)
    ∙ best.1.1 among.0 list among.1

pub extreme_stays : (wins : Ordering → Bool) (pad : Pad) (space : ℕ) →
    IsStrictWeakOrder (λ a b. wins (list_order pad space a b)) →
    (lists : List (List ℕ)) (one : List ℕ) → Contains lists one →
    wins (list_order pad space one (extreme wins pad space lists)) ≡ false
extreme_stays wins pad space order [] one among = absurd (omega (arith, among.1))
extreme_stays wins pad space order (list ∷ lists) one among =
    best_stays order list lists one among

-- None of the lists is above the greatest, or below the least.
pub not_above-greatest : AreTotal → (pad : Pad) (space : ℕ) (lists : List (List ℕ))
    (one : List ℕ) → Contains lists one → NotAbove pad space one (extreme is_gt pad space lists)
not_above-greatest total pad space lists one among =
    extreme_stays is_gt pad space (wins_gt total pad space) lists one among

pub least-not_above : AreTotal → (pad : Pad) (space : ℕ) (lists : List (List ℕ))
    (one : List ℕ) → Contains lists one → NotAbove pad space (extreme is_lt pad space lists) one
least-not_above total pad space lists one among =
    not_above-back total pad space (extreme is_lt pad space lists) one
    (extreme_stays is_lt pad space (wins_lt total pad space) lists one among)
