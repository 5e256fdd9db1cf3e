-- The first place that passes, as an index and as the length of what stands before it.
use Rattle.std.proofs.Common.{◌≡◌, ℕ, ◌≤◌, Bool, true, false, nat_lt, cond, not, List, length, Some, None, position, refl, arith}
use Rattle.std.specs.List.{position_or_len}
use Rattle.std.proofs.lemmas.List.Sums.{prefix_len-le-length}
use Rattle.std.proofs.lemmas.Bool.Decides.{nat_tests}

-- an index that a test chose
chosen : (b : Bool) (i k : ℕ) → Some i ≡ cond b (Some k) None → i ≡ k
chosen true i k e = cc
chosen false i k e = cc

-- no index, though a test might have chosen one
refused : (b : Bool) (k n : ℕ) → nat_lt k n ≡ b → None ≡ cond b (Some k) None → n ≤ k
refused true k n h e = cc
refused false k n h e = grind (arith, nat_tests, h)

-- The index that was found is how many stand before it.
pub place_found : (p : ℕ → Bool) (xs : List ℕ) (i : ℕ) → Some i ≡ position p xs → i ≡ position_or_len p xs
place_found p xs i e = chosen (nat_lt (position_or_len p xs) (length xs)) i (position_or_len p xs) e

-- Where none was found, all stand before it.
pub place_missing : (p : ℕ → Bool) (xs : List ℕ) → None ≡ position p xs → length xs ≡ position_or_len p xs
place_missing p xs e =
    let k = position_or_len p xs in
    let past : length xs ≤ k = refused (nat_lt k (length xs)) k (length xs) refl e in
    omega (arith, prefix_len-le-length (λ x. not (p x)) xs)
