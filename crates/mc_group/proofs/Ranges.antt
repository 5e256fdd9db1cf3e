-- Numbers of 64 bits: the test, and what std's calls say.
use Rattle.std.proofs.Common.{◌≡◌, ◌<◌, ◌^◌, true, false, arith}
use Rattle.std.specs.Prelude.{ℤ, pos, negsuc, FitsSigned}
use Rattle.std.specs.Int.{w64}
use Rattle.std.proofs.lemmas.Bool.Decides.{nat_tests}
use Rattle.mc_group.specs.Sums.{has_64_bits}

pub fits_test : (z : ℤ) → FitsSigned w64 z → has_64_bits z ≡ true
fits_test (pos n) h = grind (arith, nat_tests, h.sfits)
fits_test (negsuc n) h = grind (arith, nat_tests, h.sfits)

pub misfits_test : (z : ℤ) → (FitsSigned w64 z → ⊥) → has_64_bits z ≡ false
misfits_test (pos n) h = grind (arith, nat_tests, λ (l : n < 2 ^ 63). h (record { sfits = l }))
misfits_test (negsuc n) h = grind (arith, nat_tests, λ (l : n < 2 ^ 63). h (record { sfits = l }))

pub ruleset ranges = (fits_test, misfits_test)
