-- Fronts decide where they differ.
use Rattle.std.proofs.Common.{◌≡◌, ◌≢◌, ◌⊎◌, ℕ, zero, suc, ◌+◌, ◌*◌, ◌^◌, ◌<◌, ◌≤◌, ◌%◌, nat_le, true, false}
use Rattle.std.proofs.Common.{if◌then◌else◌, List, drop, slice_index_or, [], ◌∷◌, refl, sym, ap, ◌∙◌, subst, inl, inr}
use Rattle.std.proofs.Common.{⊎_elim, arith}
use Rattle.std.proofs.Math.Nat.{mul-le-mul_right}
use Rattle.std.proofs.lemmas.Nat.{pow-add, shl_whole}
use Rattle.std.proofs.lemmas.Bool.{cases_lt}
use Rattle.std.proofs.lemmas.Bool.Decides.{nat_tests}
use Rattle.std.proofs.lemmas.Cmp.{ranked}
use Rattle.std.specs.Cmp.{IsTotalOrder, nat_cmp_is}
use Rattle.std.specs.Ordering.{nat_cmp, ordering_then, ordering_reverse}
use Rattle.std.specs.declared.cmp.Ordering.{Ordering}
use Rattle.std.specs.declared.cmp.Ordering.TheVariants.{Less, Equal, Greater}
use Rattle.mc_order.specs.declared.pad.Pad.{Pad}
use Rattle.mc_order.specs.declared.pad.Pad.TheVariants.{PadSpace, NoPad}
use Rattle.mc_order.specs.Order.{order_to_end, list_order}
use Rattle.mc_key.specs.Fronts.{FrontsDecide, filler, first_digits, front_of, greatest_digit}

digit_step : (n : ℕ) → 2 ^ (16 * suc n) ≡ 65536 * 2 ^ (16 * n)
digit_step n =
    let e : 16 * suc n ≡ 16 + 16 * n = omega arith in
    ap (λ k. 2 ^ k) e ∙ pow-add 2 16 (16 * n)

-- A weight in front, by the size of the digits behind it.
abbrev led_by : (size weight digits : ℕ) → ℕ
led_by size weight digits =
    if nat_le greatest_digit weight then greatest_digit * size else weight * size + digits

led_high : (size weight digits : ℕ) → 65535 ≤ weight → led_by size weight digits ≡ 65535 * size
led_high size weight digits h =
    let e : nat_le 65535 weight ≡ true = grind (arith, nat_tests, h) in
    ap (λ b. if b then 65535 * size else weight * size + digits) e

led_low : (size weight digits : ℕ) → weight < 65535 →
    led_by size weight digits ≡ weight * size + digits
led_low size weight digits h =
    let e : nat_le 65535 weight ≡ false = grind (arith, nat_tests, h) in
    ap (λ b. if b then 65535 * size else weight * size + digits) e

led_below : (size weight digits : ℕ) → digits < size →
    led_by size weight digits < 65536 * size
led_below size weight digits h =
    ⊎_elim
    (λ low. let m : weight * size ≤ 65535 * size = mul-le-mul_right size (omega (arith, low)) in
    let e = led_low size weight digits low in omega (arith, m, e, h))
    (λ high. let e = led_high size weight digits high in omega (arith, e, h))
    (cases_lt weight 65535)

digits_below : (n : ℕ) (pad : Pad) (space : ℕ) (list : List ℕ) →
    first_digits n pad space list < 2 ^ (16 * n)
unfolding first_digits
digits_below zero pad space list = omega arith
digits_below (suc n) pad space [] =
    subst (λ s. led_by (2 ^ (16 * n)) (filler pad space) (first_digits n pad space []) < s)
    (sym (digit_step n))
    (led_below (2 ^ (16 * n)) (filler pad space) (first_digits n pad space [])
    (digits_below n pad space []))
digits_below (suc n) pad space (x ∷ xs) =
    subst (λ s. led_by (2 ^ (16 * n)) x (first_digits n pad space xs) < s)
    (sym (digit_step n))
    (led_below (2 ^ (16 * n)) x (first_digits n pad space xs) (digits_below n pad space xs))

-- What decides between two fronts: the first weights, or the digits behind them.
abbrev IsDecided : (x y r s : ℕ) → Type 0
IsDecided x y r s = (x < y) ⊎ ((x ≡ y) × (r < s))

low_decided : (size x y r s : ℕ) → s < size → x * size + r < y * size + s → IsDecided x y r s
low_decided size x y r s t h =
    ⊎_elim (λ less. inl less)
    (λ more. ⊎_elim
    (λ above. let m : suc y * size ≤ x * size = mul-le-mul_right size above in
    let e : suc y * size ≡ y * size + size = omega arith in
    absurd (omega (arith, m, e, t, h)))
    (λ beside. let e : x ≡ y = omega (arith, more, beside) in
    let f : x * size ≡ y * size = ap (λ k. k * size) e in
    inr (e, omega (arith, f, h)))
    (cases_lt y x))
    (cases_lt x y)

decided : (size x y r s : ℕ) → s < size → led_by size x r < led_by size y s →
    IsDecided x y r s
decided size x y r s t h =
    ⊎_elim
    (λ low. ⊎_elim
    (λ other. let e = led_low size x r low in
    let f = led_low size y s other in
    low_decided size x y r s t (omega (arith, e, f, h)))
    (λ other. inl (omega (arith, low, other)))
    (cases_lt y 65535))
    (λ high. ⊎_elim
    (λ other. let e = led_high size x r high in
    let f = led_low size y s other in
    let m : y * size ≤ 65534 * size = mul-le-mul_right size (omega (arith, other)) in
    absurd (omega (arith, e, f, m, t, h)))
    (λ other. let e = led_high size x r high in
    let f = led_high size y s other in
    absurd (omega (arith, e, f, h)))
    (cases_lt y 65535))
    (cases_lt x 65535)

-- The first weights decide, else what stands behind them.
then_first : (x y : ℕ) (rest : Ordering) → x < y → ordering_then (nat_cmp x y) rest ≡ Less
then_first x y rest h = ap (λ o. ordering_then o rest) (sym (nat_cmp_is x y Less h))

then_greater : (x y : ℕ) (rest : Ordering) → y < x → ordering_then (nat_cmp x y) rest ≡ Greater
then_greater x y rest h = ap (λ o. ordering_then o rest) (sym (nat_cmp_is x y Greater h))

then_rest : (x y : ℕ) (rest : Ordering) → x ≡ y → ordering_then (nat_cmp x y) rest ≡ rest
then_rest x y rest e = ap (λ o. ordering_then o rest) (sym (nat_cmp_is x y Equal e))

no_digits : (n space : ℕ) → first_digits n NoPad space [] ≡ 0
unfolding first_digits
no_digits zero space = refl
no_digits (suc n) space =
    let none : 0 * 2 ^ (16 * n) + 0 ≡ 0 = omega arith in
    ap (λ d. led_by (2 ^ (16 * n)) 0 d) (no_digits n space) ∙ none

to_end : (space : ℕ) (xs : List ℕ) →
    list_order PadSpace space xs [] ≡ order_to_end PadSpace space xs
unfolding list_order order_to_end
to_end space [] = refl
to_end space (x ∷ xs) = refl

pub digits_less : (n : ℕ) (pad : Pad) (space : ℕ) (a b : List ℕ) →
    first_digits n pad space a < first_digits n pad space b → list_order pad space a b ≡ Less
unfolding first_digits list_order order_to_end
digits_less zero pad space a b h = absurd (omega (arith, h))
digits_less (suc n) pad space [] [] h = absurd (omega (arith, h))
digits_less (suc n) NoPad space [] (y ∷ ys) h = refl
digits_less (suc n) PadSpace space [] (y ∷ ys) h =
    ⊎_elim
    (λ less. ap ordering_reverse (then_greater y space (order_to_end PadSpace space ys) less))
    (λ rest. ap ordering_reverse (then_rest y space (order_to_end PadSpace space ys) (sym rest.0))
    ∙ digits_less n PadSpace space [] ys rest.1)
    (decided (2 ^ (16 * n)) space y (first_digits n PadSpace space [])
    (first_digits n PadSpace space ys) (digits_below n PadSpace space ys) h)
digits_less (suc n) NoPad space (x ∷ xs) [] h =
    let e = no_digits (suc n) space in absurd (omega (arith, e, h))
digits_less (suc n) PadSpace space (x ∷ xs) [] h =
    ⊎_elim
    (λ less. then_first x space (order_to_end PadSpace space xs) less)
    (λ rest. then_rest x space (order_to_end PadSpace space xs) rest.0
    ∙ sym (to_end space xs) ∙ digits_less n PadSpace space xs [] rest.1)
    (decided (2 ^ (16 * n)) x space (first_digits n PadSpace space xs)
    (first_digits n PadSpace space []) (digits_below n PadSpace space []) h)
digits_less (suc n) pad space (x ∷ xs) (y ∷ ys) h =
    ⊎_elim
    (λ less. then_first x y (list_order pad space xs ys) less)
    (λ rest. then_rest x y (list_order pad space xs ys) rest.0
    ∙ digits_less n pad space xs ys rest.1)
    (decided (2 ^ (16 * n)) x y (first_digits n pad space xs)
    (first_digits n pad space ys) (digits_below n pad space ys) h)

pub fronts_decide : ((pad : Pad) (space : ℕ) → IsTotalOrder (list_order pad space)) → FrontsDecide
fronts_decide total pad space list other = (
  digits_less 8 pad space list other,
  λ h. (total pad space).antisymm list other
      ∙ ap ordering_reverse (digits_less 8 pad space other list h),
)

-- So an order of fronts that differ is that of the lists.
pub front_order : FrontsDecide → (pad : Pad) (space : ℕ) (list other : List ℕ)
    (front other_front : ℕ) (order : Ordering) → front ≡ front_of pad space list →
    other_front ≡ front_of pad space other → order ≡ nat_cmp front other_front →
    order ≢ Equal → order ≡ list_order pad space list other
front_order decide pad space list other front other_front Less e f is differs =
    let less = ranked front other_front Less is in
    sym ((decide pad space list other).0 (omega (arith, e, f, less)))
front_order decide pad space list other front other_front Equal e f is differs =
    absurd (differs refl)
front_order decide pad space list other front other_front Greater e f is differs =
    let more = ranked front other_front Greater is in
    sym ((decide pad space list other).1 (omega (arith, e, f, more)))

-- One digit more of a front.
one_digit : (left n fill weight : ℕ) (pad : Pad) (space : ℕ) (rest behind : List ℕ) →
    left ≡ suc n → fill ≡ filler pad space → weight ≡ slice_index_or rest 0 fill →
    behind ≡ drop 1 rest →
    first_digits left pad space rest
    ≡ led_by (2 ^ (16 * n)) weight (first_digits n pad space behind)
unfolding first_digits
one_digit left n fill weight pad space rest behind e f w b =
    ap (λ k. first_digits k pad space rest) e
    ∙ ap (λ x. led_by (2 ^ (16 * n)) x (first_digits n pad space (drop 1 rest)))
    (ap (slice_index_or rest 0) (sym f) ∙ sym w)
    ∙ ap (λ l. led_by (2 ^ (16 * n)) weight (first_digits n pad space l)) (sym b)

shifted : (digit n : ℕ) → digit ≤ 65535 → n < 8 →
    (digit * 2 ^ (16 * n)) % 2 ^ 128 ≡ digit * 2 ^ (16 * n)
shifted digit n small within = shl_whole digit 16 (16 * n) 128 (omega (arith, small))
    (omega (arith, within))

-- The greatest digit is the last one.
pub last_digit : (front left n fill weight digit total : ℕ) (pad : Pad) (space : ℕ)
    (rest behind : List ℕ) → left ≡ suc n → left ≤ 8 → fill ≡ filler pad space →
    weight ≡ slice_index_or rest 0 fill → behind ≡ drop 1 rest → 65535 ≤ weight →
    digit ≡ 65535 → front + first_digits left pad space rest ≡ total →
    front + (digit * 2 ^ (16 * n)) % 2 ^ 128 ≡ total
last_digit front left n fill weight digit total pad space rest behind e within f w b high d h =
    let step = one_digit left n fill weight pad space rest behind e f w b in
    let is = led_high (2 ^ (16 * n)) weight (first_digits n pad space behind) high in
    let whole = shifted digit n (omega (arith, d)) (omega (arith, e, within)) in
    let same : digit * 2 ^ (16 * n) ≡ 65535 * 2 ^ (16 * n) = ap (λ k. k * 2 ^ (16 * n)) d in
    omega (arith, step, is, whole, same, h)

-- Any other has digits behind it.
pub next_digit : (front left n fill weight digit total : ℕ) (pad : Pad) (space : ℕ)
    (rest behind : List ℕ) → left ≡ suc n → left ≤ 8 → fill ≡ filler pad space →
    weight ≡ slice_index_or rest 0 fill → behind ≡ drop 1 rest → weight < 65535 →
    digit ≡ weight → front + first_digits left pad space rest ≡ total →
    front + (digit * 2 ^ (16 * n)) % 2 ^ 128 + first_digits n pad space behind ≡ total
next_digit front left n fill weight digit total pad space rest behind e within f w b low d h =
    let step = one_digit left n fill weight pad space rest behind e f w b in
    let is = led_low (2 ^ (16 * n)) weight (first_digits n pad space behind) low in
    let whole = shifted digit n (omega (arith, d, low)) (omega (arith, e, within)) in
    let same : digit * 2 ^ (16 * n) ≡ weight * 2 ^ (16 * n) = ap (λ k. k * 2 ^ (16 * n)) d in
    omega (arith, step, is, whole, same, h)

pub no_digit_left : (front left total : ℕ) (pad : Pad) (space : ℕ) (rest : List ℕ) → left ≡ 0 →
    front + first_digits left pad space rest ≡ total → front ≡ total
unfolding first_digits
no_digit_left front left total pad space rest e h =
    let none : first_digits left pad space rest ≡ 0 = ap (λ k. first_digits k pad space rest) e in
    omega (arith, none, h)

pub front_below : (pad : Pad) (space : ℕ) (list : List ℕ) → front_of pad space list < 2 ^ 128
front_below pad space list = digits_below 8 pad space list
