-- One step of a comparison, weight by weight.
use Rattle.std.proofs.Common.{◌≡◌, ℕ, suc, ◌+◌, ◌-◌, ◌<◌, take, append_assoc, List, [], ◌∷◌, ◌++◌, refl, sym, ap, ◌∙◌, arith}
use Rattle.std.specs.declared.cmp.Ordering.{Ordering}
use Rattle.std.specs.declared.cmp.Ordering.TheVariants.{Less, Equal, Greater}
use Rattle.std.specs.Ordering.{nat_cmp, ordering_then, ordering_reverse, MatchOrdering}
use Rattle.std.proofs.lemmas.Cmp.{ranked}
use Rattle.std.proofs.lemmas.List.{take-map}
use Rattle.mc_order.specs.declared.pad.Pad.{Pad}
use Rattle.mc_order.specs.declared.pad.Pad.TheVariants.{PadSpace, NoPad}
use Rattle.mc_order.specs.Order.{order_to_end, list_order}

known_same : (x y : ℕ) (o r : Ordering) → MatchOrdering o (x < y) (x ≡ y) (y < x) → x ≡ y →
    ordering_then o r ≡ r
known_same x y Less r h e = absurd (omega arith)
known_same x y Equal r h e = refl
known_same x y Greater r h e = absurd (omega arith)

known_other : (x y : ℕ) (o r : Ordering) → MatchOrdering o (x < y) (x ≡ y) (y < x) → (x ≡ y →
    ⊥) → ordering_then o r ≡ o
known_other x y Less r h e = refl
known_other x y Equal r h e = absurd (e h)
known_other x y Greater r h e = refl

then_same : (x y : ℕ) (r : Ordering) → x ≡ y → ordering_then (nat_cmp x y) r ≡ r
then_same x y r e = known_same x y (nat_cmp x y) r (ranked x y (nat_cmp x y) refl) e

then_other : (x y : ℕ) (r : Ordering) → (x ≡ y → ⊥) → ordering_then (nat_cmp x y) r ≡ nat_cmp x y
then_other x y r e = known_other x y (nat_cmp x y) r (ranked x y (nat_cmp x y) refl) e

pub order_to_end-same : (space weight : ℕ) (more : List ℕ) → weight ≡ space →
    order_to_end PadSpace space (weight ∷ more) ≡ order_to_end PadSpace space more
unfolding order_to_end
order_to_end-same space weight more e = then_same weight space (order_to_end PadSpace space more) e

pub order_to_end-other : (space weight : ℕ) (more : List ℕ) → (weight ≡ space → ⊥) →
    order_to_end PadSpace space (weight ∷ more) ≡ nat_cmp weight space
unfolding order_to_end
order_to_end-other space weight more e =
    then_other weight space (order_to_end PadSpace space more) e

pub order_to_end-unpadded : (space weight : ℕ) (more : List ℕ) →
    order_to_end NoPad space (weight ∷ more) ≡ Greater
unfolding order_to_end
order_to_end-unpadded space weight more = refl

pub order_to_end-none : (pad : Pad) (space : ℕ) → order_to_end pad space [] ≡ Equal
unfolding order_to_end
order_to_end-none pad space = refl

pub list_order-same : (pad : Pad) (space x y : ℕ) (xs ys : List ℕ) → x ≡ y →
    list_order pad space (x ∷ xs) (y ∷ ys) ≡ list_order pad space xs ys
unfolding list_order
list_order-same pad space x y xs ys e = then_same x y (list_order pad space xs ys) e

pub list_order-other : (pad : Pad) (space x y : ℕ) (xs ys : List ℕ) → (x ≡ y → ⊥) →
    list_order pad space (x ∷ xs) (y ∷ ys) ≡ nat_cmp x y
unfolding list_order
list_order-other pad space x y xs ys e = then_other x y (list_order pad space xs ys) e

pub list_order-end_right : (pad : Pad) (space x : ℕ) (xs : List ℕ) →
    list_order pad space (x ∷ xs) [] ≡ order_to_end pad space (x ∷ xs)
unfolding list_order
list_order-end_right pad space x xs = refl

pub list_order-end_left : (pad : Pad) (space : ℕ) (ys : List ℕ) →
    list_order pad space [] ys ≡ ordering_reverse (order_to_end pad space ys)
unfolding list_order
list_order-end_left pad space ys = refl

take_one : (more left : List ℕ) (weight n m : ℕ) → left ≡ weight ∷ more → n ≡ suc m →
    take n left ≡ weight ∷ take m more
take_one more left weight n m is e = ap (take n) is ∙ ap (λ k. take k (weight ∷ more)) e

pub list_order-none : (pad : Pad) (space : ℕ) → list_order pad space [] [] ≡ Equal
unfolding list_order order_to_end
list_order-none pad space = refl

-- What both begin with decides nothing.
pub list_order-front : (pad : Pad) (space : ℕ) (front xs ys : List ℕ) →
    list_order pad space (front ++ xs) (front ++ ys) ≡ list_order pad space xs ys
list_order-front pad space [] xs ys = refl
list_order-front pad space (x ∷ front) xs ys =
    list_order-same pad space x x (front ++ xs)
    (front ++ ys) refl ∙ list_order-front pad space front xs ys

pub ruleset steps = (
  order_to_end-same,
  order_to_end-other,
  order_to_end-unpadded,
  order_to_end-none,
  list_order-same,
  list_order-other,
  list_order-end_right,
  list_order-end_left,
  list_order-none,
)

-- One more of the first `count` weights is appended.
pub put_one_of : (out old more left : List ℕ) (weight count at : ℕ) → left ≡ weight ∷ more →
    at < count → out ++ take (count - at) left ≡ old →
    (out ++ weight ∷ []) ++ take (count - (at + 1)) more ≡ old
put_one_of out old more left weight count at is below e =
    append_assoc out (weight ∷ []) (take (count - (at + 1)) more)
    ∙ ap (λ t. out ++ t) (sym (take_one more left weight (count - at) (count - (at + 1)) is
    (omega arith)))
    ∙ e

pub ruleset cuts = (take-map)
