-- Five digits make a number below 16 ^ 5, so a sixth fits; a byte that is no digit spoils the value.
use Rattle.std.proofs.Common.{◌≡◌, ◌<◌, ◌≤◌, ◌^◌, ℕ, List, length, take, get_or, None, Some, Option, Bool, true, false, cond, ◌&&◌, nat_le, refl, sym, arith}
use Rattle.std.proofs.lemmas.List.Folds.{fold_stuck}
use Rattle.std.proofs.Math.Nat.{pow-le-pow_right}
use Rattle.mc_base.specs.Hex.{hex_digit, with_digit, hex_value}
use Rattle.mc_base.proofs.hex.hex_number.Goals as goal

-- a number of at most five digits
five_digits : (number count : ℕ) → number < 16 ^ count → count < 6 → number < 1048576
five_digits number count below few =
    let short : count ≤ 5 = omega arith in
    let some : 0 < 16 = omega arith in
    let most : 16 ^ count ≤ 16 ^ 5 = pow-le-pow_right {n = 16} some {i = count} {j = 5} short in
    omega (arith, below, most)

-- a byte that is no digit
spoiled : (digits : List ℕ) (i d number : ℕ) → i < length digits → hex_value (take i digits) ≡ Some number → None ≡ hex_digit (get_or digits i d) → None ≡ hex_value digits
spoiled digits i d number h so_far e =
    let stuck : with_digit (hex_value (take i digits)) (get_or digits i d) ≡ None = rw (so_far, ← e) refl in
    fold_stuck with_digit None (λ _. refl) (Some 0) digits i d h stuck

-- what is no value gives no number, whatever its length
not_a_number : (b : Bool) (value : Option ℕ) → value ≡ None → cond b value None ≡ None
not_a_number true value e = e
not_a_number false value e = refl

pub overflow_mul-number : goal.overflow_mul-number
overflow_mul-number c =
    let below = five_digits c.loop-code.number c.loop-code.code-index c.loop-code.invariant.small (omega arith) in
    omega (arith, below)

pub returns-in_err-number : goal.returns-in_err-number
returns-in_err-number c =
    let digits = c.args.digits.now in
    let i = c.loop-code.code-index in
    let bad : None ≡ hex_digit (get_or digits i 0) = grind (arith, c.in_err-number.ensures.value) in
    let none = spoiled digits i 0 c.loop-code.number (omega arith) c.loop-code.invariant.value bad in
    let refused = not_a_number (nat_le 1 (length digits) && nat_le (length digits) 6) (hex_value digits) (sym none) in
    grind (arith, refused)

pub overflow_add-number : goal.overflow_add-number
overflow_add-number c =
    let below = five_digits c.loop-code.number c.loop-code.code-index c.loop-code.invariant.small (omega arith) in
    omega (arith, below, c.in_ok-number.ensures.small)
