-- One step of a comparison: two lists, by their first weights.
use Rattle.std.proofs.Common.{◌≡◌, ℕ, ◌<◌, List, ◌∷◌, refl, arith}
use Rattle.std.specs.declared.cmp.Ordering.{Ordering}
use Rattle.std.specs.declared.cmp.Ordering.TheVariants.{Less, Equal, Greater}
use Rattle.std.specs.Ordering.{nat_cmp, ordering_then, MatchOrdering}
use Rattle.std.proofs.lemmas.Cmp.{ranked}
use Rattle.mc_order.specs.declared.pad.Pad.{Pad}
use Rattle.mc_order.specs.Order.{list_order}

known_same : (x y : ℕ) (o r : Ordering) → MatchOrdering o (x < y) (x ≡ y) (y < x) → x ≡ y →
    ordering_then o r ≡ r
known_same x y Less r h e = absurd (omega arith)
known_same x y Equal r h e = refl
known_same x y Greater r h e = absurd (omega arith)

known_other : (x y : ℕ) (o r : Ordering) → MatchOrdering o (x < y) (x ≡ y) (y < x) →
    (x ≡ y → ⊥) → ordering_then o r ≡ o
known_other x y Less r h e = refl
known_other x y Equal r h e = absurd (e h)
known_other x y Greater r h e = refl

-- Equal ones decide nothing.
pub list_order-same : (pad : Pad) (space x y : ℕ) (xs ys : List ℕ) → x ≡ y →
    list_order pad space (x ∷ xs) (y ∷ ys) ≡ list_order pad space xs ys
unfolding list_order
list_order-same pad space x y xs ys e =
    known_same x y (nat_cmp x y) (list_order pad space xs ys) (ranked x y (nat_cmp x y) refl) e

-- Different ones decide.
pub list_order-other : (pad : Pad) (space x y : ℕ) (xs ys : List ℕ) → (x ≡ y → ⊥) →
    list_order pad space (x ∷ xs) (y ∷ ys) ≡ nat_cmp x y
unfolding list_order
list_order-other pad space x y xs ys e =
    known_other x y (nat_cmp x y) (list_order pad space xs ys) (ranked x y (nat_cmp x y) refl) e

pub ruleset steps = (list_order-same, list_order-other)
