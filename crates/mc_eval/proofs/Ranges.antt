-- Numbers of 64 bits: the test, and what std's calls say.
use Rattle.std.proofs.Common.{◌≡◌, ◌<◌, ◌^◌, true, false, sym, ap, ◌∙◌, arith}
use Rattle.std.specs.Prelude.{ℤ, pos, negsuc, int_div, FitsSigned}
use Rattle.std.specs.Int.{w64, CanDivide, IsNonZero}
use Rattle.std.proofs.lemmas.Bool.Decides.{nat_tests}
use Rattle.mc_values.specs.declared.value.Value.TheVariants as value
use Rattle.mc_eval.specs.Arithmetic.{has_64_bits, ranged}
use Rattle.mc_eval.specs.Outcomes.Outcome.{fault, gives}

fits_test : (z : ℤ) → FitsSigned w64 z → has_64_bits z ≡ true
fits_test (pos n) h = grind (arith, nat_tests, h.sfits)
fits_test (negsuc n) h = grind (arith, nat_tests, h.sfits)

misfits_test : (z : ℤ) → (FitsSigned w64 z → ⊥) → has_64_bits z ≡ false
misfits_test (pos n) h = grind (arith, nat_tests, λ (l : n < 2 ^ 63). h (record { sfits = l }))
misfits_test (negsuc n) h = grind (arith, nat_tests, λ (l : n < 2 ^ 63). h (record { sfits = l }))

pub fits : (z : ℤ) → FitsSigned w64 z → ranged z ≡ gives (value.Int z)
fits z h = let e = fits_test z h in cc

pub misfits : (z : ℤ) → (FitsSigned w64 z → ⊥) → ranged z ≡ fault
misfits z h = let e = misfits_test z h in cc

-- A quotient by another number than 0 is in range exactly where it fits.
pub quotient_fits : (x y z : ℤ) → CanDivide w64 x y → z ≡ int_div x y → ranged (int_div x y) ≡ gives (value.Int z)
quotient_fits x y z h e = fits (int_div x y) h.1 ∙ ap (λ n. gives (value.Int n)) (sym e)

pub quotient_misfits : (x y : ℤ) → IsNonZero w64 y → (CanDivide w64 x y → ⊥) → ranged (int_div x y) ≡ fault
quotient_misfits x y n h = misfits (int_div x y) (λ f. h (n, f))

pub ruleset quotients = (quotient_fits, quotient_misfits)
