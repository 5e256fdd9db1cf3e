-- The bytes of weights.
use Rattle.std.proofs.Common.{◌≡◌, ℕ, zero, suc, ◌*◌, ◌+◌, ◌-◌, ◌≤◌, take, drop, List, [], ◌∷◌, length, length-append, w32, refl, ap, ◌∙◌, arith}
use Rattle.std.specs.Int.{bytes_high_first, to_be_bytes}
use Rattle.mc_key.specs.WeightString.{weight_bytes, list_bytes}

bytes_high_first-length : (width n : ℕ) → length (bytes_high_first width n) ≡ width
bytes_high_first-length zero n = refl
bytes_high_first-length (suc width) n = ap suc (bytes_high_first-length width n)

more_bytes : (width n m : ℕ) → n ≡ m * width → width + n ≡ suc m * width
more_bytes width n m e = rw e (omega arith)

pub list_bytes_length : (width added : ℕ) (list : List ℕ) →
    length (list_bytes width added list) ≡ length list * width
unfolding list_bytes
list_bytes_length width added [] = omega arith
list_bytes_length width added (weight ∷ weights) =
    length-append (weight_bytes width added weight) (list_bytes width added weights)
    ∙ ap (λ n. n + length (list_bytes width added weights))
    (bytes_high_first-length width (weight - added))
    ∙ more_bytes width _ (length weights) (list_bytes_length width added weights)

-- The last bytes of four are the lowest ones.
low_bytes : (width n : ℕ) → width ≤ 3 →
    take (4 - (4 - width)) (drop (4 - width) (to_be_bytes w32 n)) ≡ bytes_high_first width n
low_bytes zero n h = refl
low_bytes (suc zero) n h = refl
low_bytes (suc (suc zero)) n h = refl
low_bytes (suc (suc (suc zero))) n h = refl
low_bytes (suc (suc (suc (suc width)))) n h = absurd (omega arith)

-- So the last ones of a weight's four are its bytes.
pub last_bytes : (width kept added weight less : ℕ) (bytes : List ℕ) → width ≤ 3 →
    kept ≡ width → less ≡ weight - added → bytes ≡ to_be_bytes w32 less →
    take (4 - (4 - kept)) (drop (4 - kept) bytes) ≡ weight_bytes width added weight
last_bytes width kept added weight less bytes h k l b =
    ap (λ n. take (4 - (4 - n)) (drop (4 - n) bytes)) k
    ∙ ap (λ t. take (4 - (4 - width)) (drop (4 - width) t)) b
    ∙ low_bytes width less h ∙ ap (bytes_high_first width) l
