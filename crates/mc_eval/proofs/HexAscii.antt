-- The hexadecimal digits of a number are ASCII.
use Rattle.std.proofs.Common.{ℕ, zero, suc, ◌<◌, ◌/◌, ◌%◌, ◌==◌, true, ℤ, List, [], ◌∷◌, arith}
use Rattle.std.specs.Fmt.{digit_glyph, digits, digits_onto}
use Rattle.std.specs.Str.{IsAscii}
use Rattle.std.proofs.lemmas.Bool.{cond_both}
use Rattle.std.proofs.lemmas.Bool.Decides.{nat_tests}
use Rattle.std.proofs.lemmas.Str.Ascii.{IsAscii-nil}
use Rattle.mc_values.specs.Hexadecimal.{number_digits, twos_complement}

glyph_ascii : (d : ℕ) → d < 16 → digit_glyph true d < 128
glyph_ascii d h = grind (arith, nat_tests)

cons_ascii : (b : ℕ) (bs : List ℕ) → b < 128 → IsAscii bs → IsAscii (b ∷ bs)
cons_ascii b bs h k zero = h
cons_ascii b bs h k (suc i) = k i

with_digit : (n : ℕ) (acc : List ℕ) → IsAscii acc → IsAscii (digit_glyph true (n % 16) ∷ acc)
with_digit n acc h = cons_ascii (digit_glyph true (n % 16)) acc (glyph_ascii (n % 16) (omega arith)) h

onto_ascii : (k n : ℕ) (acc : List ℕ) → IsAscii acc → IsAscii (digits_onto k 16 true n acc)
onto_ascii zero n acc h = h
onto_ascii (suc k) n acc h =
    cond_both (n / 16 == 0) (digit_glyph true (n % 16) ∷ acc)
    (digits_onto k 16 true (n / 16) (digit_glyph true (n % 16) ∷ acc)) IsAscii
    (λ e. with_digit n acc h)
    (λ e. onto_ascii k (n / 16) (digit_glyph true (n % 16) ∷ acc) (with_digit n acc h))

pub number_ascii : (number : ℤ) → IsAscii (number_digits number)
unfolding number_digits digits
number_ascii number = onto_ascii 64 (twos_complement number) [] IsAscii-nil
