-- Texts that have one block more in common.
use Rattle.std.proofs.Common.{◌≡◌, ℕ, ◌+◌, ◌-◌, List, length, take, take_all, drop, length-drop, sym, ◌∙◌, arith}
use Rattle.std.proofs.Math.Seq.{take-add}

take_rest : (xs : List ℕ) (n : ℕ) → take (length xs - n) (drop n xs) ≡ drop n xs
take_rest xs n = take_all (length xs - n) (drop n xs) (omega (arith, length-drop n xs))

pub more_same : (a b : List ℕ) (n m : ℕ) → take n a ≡ take n b →
    take m (take (length a - n) (drop n a)) ≡ take m (take (length b - n) (drop n b)) →
    take (n + m) a ≡ take (n + m) b
more_same a b n m front block =
    let same = rw (take_rest a n, take_rest b n) at block in
    take-add n m a ∙ rw (front, same) (sym (take-add n m b))
