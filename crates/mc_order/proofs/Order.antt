-- The order of two lists is the one of `IsOrder`, and a total order.
use Rattle.std.proofs.Common.{◌≡◌, ℕ, zero, suc, ◌+◌, ◌-◌, ◌<◌, ◌≤◌, min, List, [], ◌∷◌, ◌++◌, take, take_all, drop, length, length-drop, get_or, refl, sym, ap, ◌∙◌, subst, ⊎_elim, arith}
use Rattle.std.specs.declared.cmp.Ordering.{Ordering}
use Rattle.std.specs.declared.cmp.Ordering.TheVariants.{Less, Equal, Greater}
use Rattle.std.specs.Ordering.{nat_cmp, ordering_then, ordering_reverse, MatchOrdering}
use Rattle.std.specs.List.{All}
use Rattle.std.proofs.lemmas.List.Elements.{All-head, All-tail}
use Rattle.std.specs.Cmp.{IsTotalOrder}
use Rattle.std.specs.Cmp.Lexicographic.{slice_cmp}
use Rattle.std.proofs.lemmas.Cmp.{ranked}
use Rattle.std.proofs.lemmas.Bool.{cases_lt}
use Rattle.std.proofs.lemmas.Bool.Decides.{nat_tests}
use Rattle.std.proofs.lemmas.List.{at_drop_more, at_drop_all}
use Rattle.mc_order.specs.declared.pad.Pad.{Pad}
use Rattle.mc_order.specs.declared.pad.Pad.TheVariants.{PadSpace, NoPad}
use Rattle.mc_order.proofs.Steps.{list_order-same}
use Rattle.mc_order.specs.Meaning.{separator}
use Rattle.mc_order.specs.Order.{prolonged, AgreeBefore, Compares, IsOrder, order_to_end, list_order}

agree_everywhere : (p q : ℕ → ℕ) → p 0 ≡ q 0 → ((i : ℕ) → p (suc i) ≡ q (suc i)) → (i : ℕ) →
    p i ≡ q i
agree_everywhere p q first rest zero = first
agree_everywhere p q first rest (suc i) = rest i

AgreeBefore-suc : (p q : ℕ → ℕ) (n : ℕ) → p 0 ≡ q 0 →
    AgreeBefore n (λ i. p (suc i)) (λ i. q (suc i)) → AgreeBefore (suc n) p q
AgreeBefore-suc p q n first rest zero below = first
AgreeBefore-suc p q n first rest (suc i) below = rest i (omega arith)

-- The first place decides, else the places behind it.
pub Compares-step : (p q : ℕ → ℕ) (o r : Ordering) →
    MatchOrdering o (p 0 < q 0) (p 0 ≡ q 0) (q 0 < p 0) →
    Compares (λ i. p (suc i)) (λ i. q (suc i)) r → Compares p q (ordering_then o r)
Compares-step p q Less r here rest = (0, (λ i below. absurd (omega arith)), here)
Compares-step p q Greater r here rest = (0, (λ i below. absurd (omega arith)), here)
Compares-step p q Equal Equal here rest = agree_everywhere p q here rest
Compares-step p q Equal Less here rest =
    (suc rest.0, AgreeBefore-suc p q rest.0 here rest.1, rest.2)
Compares-step p q Equal Greater here rest =
    (suc rest.0, AgreeBefore-suc p q rest.0 here rest.1, rest.2)

pub Compares-reverse : (p q : ℕ → ℕ) (r : Ordering) → Compares p q r →
    Compares q p (ordering_reverse r)
Compares-reverse p q Equal h = λ i. sym (h i)
Compares-reverse p q Less h = (h.0, (λ i below. sym (h.1 i below)), h.2)
Compares-reverse p q Greater h = (h.0, (λ i below. sym (h.1 i below)), h.2)

ranked_suc : (x y : ℕ) (o : Ordering) → MatchOrdering o (x < y) (x ≡ y) (y < x) →
    MatchOrdering o (suc x < suc y) (suc x ≡ suc y) (suc y < suc x)
ranked_suc x y Less h = omega arith
ranked_suc x y Equal h = ap suc h
ranked_suc x y Greater h = omega arith

numbers : (x y : ℕ) → MatchOrdering (nat_cmp x y) (suc x < suc y) (suc x ≡ suc y) (suc y < suc x)
numbers x y = ranked_suc x y (nat_cmp x y) (ranked x y (nat_cmp x y) refl)

order_to_end-is : (pad : Pad) (space : ℕ) (xs : List ℕ) →
    Compares (prolonged pad space xs) (prolonged pad space []) (order_to_end pad space xs)
unfolding order_to_end
order_to_end-is pad space [] = λ i. refl
order_to_end-is NoPad space (x ∷ xs) = (0, (λ i below. absurd (omega arith)), omega arith)
order_to_end-is PadSpace space (x ∷ xs) =
    Compares-step (prolonged PadSpace space (x ∷ xs)) (prolonged PadSpace space [])
    (nat_cmp x space) (order_to_end PadSpace space xs) (numbers x space)
    (order_to_end-is PadSpace space xs)

pub list_order-is : (pad : Pad) (space : ℕ) (a b : List ℕ) →
    IsOrder pad space a b (list_order pad space a b)
unfolding list_order
list_order-is pad space [] ys =
    Compares-reverse (prolonged pad space ys) (prolonged pad space [])
    (order_to_end pad space ys) (order_to_end-is pad space ys)
list_order-is pad space (x ∷ xs) [] = order_to_end-is pad space (x ∷ xs)
list_order-is pad space (x ∷ xs) (y ∷ ys) =
    Compares-step (prolonged pad space (x ∷ xs)) (prolonged pad space (y ∷ ys)) (nat_cmp x y)
    (list_order pad space xs ys) (numbers x y) (list_order-is pad space xs ys)

-- Two lists have one order.
pub Compares-unique : (p q : ℕ → ℕ) (r s : Ordering) → Compares p q r → Compares p q s → r ≡ s
Compares-unique p q Less Less h k = refl
Compares-unique p q Equal Equal h k = refl
Compares-unique p q Greater Greater h k = refl
Compares-unique p q Less Equal h k = absurd (omega (arith, k h.0))
Compares-unique p q Greater Equal h k = absurd (omega (arith, k h.0))
Compares-unique p q Equal Less h k = absurd (omega (arith, h k.0))
Compares-unique p q Equal Greater h k = absurd (omega (arith, h k.0))
Compares-unique p q Less Greater h k = absurd (grind (arith, h.1 k.0, k.1 h.0))
Compares-unique p q Greater Less h k = absurd (grind (arith, h.1 k.0, k.1 h.0))

-- Against spaces, the list from place i on: its first weight decides, else the rest.
pub order_to_end-at : (space : ℕ) (xs : List ℕ) (i : ℕ) → i < length xs →
    order_to_end PadSpace space (drop i xs) ≡ ordering_then (nat_cmp (get_or xs i 0) space)
    (order_to_end PadSpace space (drop (i + 1) xs))
unfolding order_to_end
order_to_end-at space xs i below = at_drop_more (order_to_end PadSpace space) xs i 0 below

pub order_to_end-past : (pad : Pad) (space : ℕ) (xs : List ℕ) (i : ℕ) → length xs ≤ i →
    order_to_end pad space (drop i xs) ≡ Equal
unfolding order_to_end
order_to_end-past pad space xs i past = at_drop_all (order_to_end pad space) xs i past

-- Where the first answer is `Equal`, the rest may be rewritten.
after : (o p q r : Ordering) → p ≡ ordering_then q r →
    ordering_then o p ≡ ordering_then (ordering_then o q) r
after Less p q r h = refl
after Equal p q r h = h
after Greater p q r h = refl

-- The shared part decides, else what is behind it.
pub list_order-shared : (pad : Pad) (space : ℕ) (a b : List ℕ) (n : ℕ) → n ≤ length a →
    n ≤ length b → list_order pad space a b ≡ ordering_then (slice_cmp nat_cmp (take n a)
    (take n b)) (list_order pad space (drop n a) (drop n b))
unfolding list_order
list_order-shared pad space a b zero la lb = refl
list_order-shared pad space [] b (suc n) la lb = absurd (omega (arith, la))
list_order-shared pad space (x ∷ xs) [] (suc n) la lb = absurd (omega (arith, lb))
list_order-shared pad space (x ∷ xs) (y ∷ ys) (suc n) la lb =
    after (nat_cmp x y) _ _ _ (list_order-shared pad space xs ys n (omega arith) (omega arith))

pub list_order-none_right : (pad : Pad) (space : ℕ) (a b : List ℕ) → length b ≡ 0 →
    list_order pad space a b ≡ order_to_end pad space a
unfolding list_order order_to_end
list_order-none_right pad space [] [] e = refl
list_order-none_right pad space (x ∷ xs) [] e = refl
list_order-none_right pad space a (y ∷ ys) e = absurd (omega (arith, e))

pub list_order-none_left : (pad : Pad) (space : ℕ) (a b : List ℕ) → length a ≡ 0 →
    list_order pad space a b ≡ ordering_reverse (order_to_end pad space b)
unfolding list_order
list_order-none_left pad space [] b e = refl
list_order-none_left pad space (x ∷ xs) b e = absurd (omega (arith, e))

pub order_to_end_unpadded : (space : ℕ) (xs : List ℕ) →
    order_to_end NoPad space xs ≡ nat_cmp (length xs) 0
unfolding order_to_end
order_to_end_unpadded space [] = refl
order_to_end_unpadded space (x ∷ xs) = grind (arith, nat_tests)

pub ruleset facts = (
  order_to_end-at,
  order_to_end-past,
  list_order-shared,
  list_order-none_right,
  list_order-none_left,
)

take_rest : (xs : List ℕ) (n : ℕ) → take (length xs - n) (drop n xs) ≡ drop n xs
take_rest xs n = take_all (length xs - n) (drop n xs) (omega (arith, length-drop n xs))

ordering_then-first : (o r : Ordering) → (o ≡ Equal → ⊥) → ordering_then o r ≡ o
ordering_then-first Less r other = refl
ordering_then-first Greater r other = refl
ordering_then-first Equal r other = absurd (other refl)

-- What is behind the shared part decides, where that is the same.
pub list_order-same_front : (pad : Pad) (space : ℕ) (a b : List ℕ) (n : ℕ) →
    n ≡ min (length a) (length b) → Equal ≡ slice_cmp nat_cmp (take n a) (take n b) →
    list_order pad space (take (length a - n) (drop n a)) (take (length b - n)
    (drop n b)) ≡ list_order pad space a b
list_order-same_front pad space a b n is same =
    rw (take_rest a n, take_rest b n) (sym (list_order-shared pad space a b n (omega arith)
    (omega arith) ∙ ap (λ o. ordering_then o (list_order pad space (drop n a) (drop n b)))
    (sym same)))

pub list_order-other_front : (pad : Pad) (space : ℕ) (a b : List ℕ) (n : ℕ) →
    n ≡ min (length a) (length b) → (slice_cmp nat_cmp (take n a) (take n b) ≡ Equal → ⊥) →
    slice_cmp nat_cmp (take n a) (take n b) ≡ list_order pad space a b
list_order-other_front pad space a b n is other =
    sym (list_order-shared pad space a b n (omega arith) (omega arith) ∙ ordering_then-first
    (slice_cmp nat_cmp (take n a) (take n b)) (list_order pad space (drop n a) (drop n b)) other)

by_size : {P : Type 0} (n m : ℕ) → (n < m → P) → (m ≤ n → P) → P
by_size n m less more = ⊎_elim less more (cases_lt n m)

at_or_before : (p q r : ℕ → ℕ) (n m : ℕ) → AgreeBefore n p q → p n < q n → q m < r m → m ≤ n →
    p m < r m
at_or_before p q r n m below here there h =
    by_size m n (λ less. let e = below m less in omega arith)
    (λ more. let e : m ≡ n = omega arith in let f : p m < q m =
    subst (λ (k : ℕ). p k < q k) (sym e) here in omega arith)

first_trans : (p q r : ℕ → ℕ) (n m : ℕ) → AgreeBefore n p q → p n < q n → AgreeBefore m q r →
    q m < r m → Compares p r Less
first_trans p q r n m below here above there =
    by_size n m (λ less. (
      n,
      (λ i lt. below i lt ∙ above i (omega arith)),
      (let e =
          above n less in omega arith),
    ))
    (λ more. (
      m,
      (λ i lt. below i (omega arith) ∙ above i lt),
      (let h : m ≤ n =
          more in at_or_before p q r n m below here there h),
    ))

pub Compares-trans : (p q r : ℕ → ℕ) → Compares p q Less → Compares q r Less → Compares p r Less
Compares-trans p q r h k = first_trans p q r h.0 k.0 h.1 h.2 k.1 k.2

pub Compares-congr : (p q r : ℕ → ℕ) (o : Ordering) → Compares p q Equal → Compares q r o →
    Compares p r o
Compares-congr p q r Equal same h = λ i. same i ∙ h i
Compares-congr p q r Less same h = (
  h.0,
  (λ i lt. same i ∙ h.1 i lt),
  (let e =
      same h.0 in let l = h.2 in omega arith),
)
Compares-congr p q r Greater same h = (
  h.0,
  (λ i lt. same i ∙ h.1 i lt),
  (let e =
      same h.0 in let l = h.2 in omega arith),
)

pub list_order-from : (pad : Pad) (space : ℕ) (a b : List ℕ) (o : Ordering) →
    IsOrder pad space a b o → list_order pad space a b ≡ o
list_order-from pad space a b o h =
    Compares-unique (prolonged pad space a) (prolonged pad space b) (list_order pad space a b) o
    (list_order-is pad space a b) h

order_known : (pad : Pad) (space : ℕ) (a b : List ℕ) (o : Ordering) →
    list_order pad space a b ≡ o → IsOrder pad space a b o
order_known pad space a b o e =
    subst (λ (r : Ordering). IsOrder pad space a b r) e (list_order-is pad space a b)

-- A list is before, beside or behind each other one, and the three fit together.
pub list_order-total : (pad : Pad) (space : ℕ) → IsTotalOrder (list_order pad space)
list_order-total pad space = record {
  antisymm = λ x y. list_order-from pad space x y (ordering_reverse (list_order pad space y x))
      (Compares-reverse (prolonged pad space y) (prolonged pad space x) (list_order pad space y x)
      (list_order-is pad space y x));
  trans = λ x y z e f. list_order-from pad space x z Less (Compares-trans (prolonged pad space x)
      (prolonged pad space y) (prolonged pad space z) (order_known pad space x y Less e)
      (order_known pad space y z Less f));
  congr = λ x y z e. list_order-from pad space x z (list_order pad space y z) (Compares-congr
      (prolonged pad space x) (prolonged pad space y) (prolonged pad space z)
      (list_order pad space y z) (order_known pad space x y Equal e) (list_order-is pad space y z));
}

-- Without padding no list is above what begins with it.
pub list_order-prolonged : (space : ℕ) (list more : List ℕ) →
    list_order NoPad space list (list ++ more) ≡ Greater → ⊥
unfolding list_order order_to_end
list_order-prolonged space [] [] h = cc
list_order-prolonged space [] (y ∷ ys) h = cc
list_order-prolonged space (x ∷ xs) more h =
    list_order-prolonged space xs more (sym (list_order-same NoPad space x x xs (xs ++ more) refl) ∙ h)

known_less : (x y : ℕ) (o : Ordering) → MatchOrdering o (x < y) (x ≡ y) (y < x) → x < y → o ≡ Less
known_less x y Less h below = refl
known_less x y Equal h below = absurd (omega arith)
known_less x y Greater h below = absurd (omega arith)

known_more : (x y : ℕ) (o : Ordering) → MatchOrdering o (x < y) (x ≡ y) (y < x) → y < x → o ≡ Greater
known_more x y Less h above = absurd (omega arith)
known_more x y Equal h above = absurd (omega arith)
known_more x y Greater h above = refl

-- A list that ends before the other one stands before it, as a separator before a weight.
levels-end_left : (space y : ℕ) (ys more other : List ℕ) → 0 < y →
    list_order NoPad space (separator ∷ more) (y ∷ (ys ++ separator ∷ other))
    ≡ ordering_then (list_order NoPad space [] (y ∷ ys)) (list_order NoPad space more other)
unfolding list_order order_to_end
levels-end_left space y ys more other some =
    ap (λ o. ordering_then o (list_order NoPad space more (ys ++ separator ∷ other)))
    (known_less 0 y (nat_cmp 0 y) (ranked 0 y (nat_cmp 0 y) refl) some)

levels-end_right : (space x : ℕ) (xs more other : List ℕ) → 0 < x →
    list_order NoPad space (x ∷ (xs ++ separator ∷ more)) (separator ∷ other)
    ≡ ordering_then (list_order NoPad space (x ∷ xs) []) (list_order NoPad space more other)
unfolding list_order order_to_end
levels-end_right space x xs more other some =
    ap (λ o. ordering_then o (list_order NoPad space (xs ++ separator ∷ more) other))
    (known_more x 0 (nat_cmp x 0) (ranked x 0 (nat_cmp x 0) refl) some)

-- Weights before a separator decide, else what stands behind it.
pub list_order-levels : (space : ℕ) (a b more other : List ℕ) → All (λ weight. separator < weight) a →
    All (λ weight. separator < weight) b → list_order NoPad space (a ++ separator ∷ more) (b ++ separator ∷ other)
    ≡ ordering_then (list_order NoPad space a b) (list_order NoPad space more other)
unfolding list_order order_to_end
list_order-levels space [] [] more other pa pb =
    list_order-same NoPad space 0 0 more other refl
list_order-levels space [] (y ∷ ys) more other pa pb =
    levels-end_left space y ys more other (All-head (λ weight. separator < weight) y ys pb)
list_order-levels space (x ∷ xs) [] more other pa pb =
    levels-end_right space x xs more other (All-head (λ weight. separator < weight) x xs pa)
list_order-levels space (x ∷ xs) (y ∷ ys) more other pa pb =
    after (nat_cmp x y) _ _ _ (list_order-levels space xs ys more other
    (All-tail (λ weight. separator < weight) x xs pa) (All-tail (λ weight. separator < weight) y ys pb))
