-- Hexadecimal digits are ASCII; those of numbers.
use Rattle.std.proofs.Common.{◌≡◌, ℕ, zero, suc, ◌<◌, ◌/◌, ◌%◌, true, ℤ, pos, negsuc, List, [], ◌∷◌, refl, ap, arith, of_z, w64}
use Rattle.std.specs.Fmt.{digits}
use Rattle.std.specs.Prelude.{slice_index, IsUtf8}
use Rattle.std.specs.Str.{IsAscii}
use Rattle.std.proofs.lemmas.Bool.Decides.{nat_tests}
use Rattle.std.proofs.lemmas.Str.{IsAscii-append, IsUtf8-from_ascii}
use Rattle.std.proofs.lemmas.Str.Ascii.{IsAscii-nil}
use Rattle.mc_values.specs.Hexadecimal.{hex_digit, hex_digits, hex_pair, number_digits, twos_complement}

digit_ascii : (value : ℕ) → value < 16 → hex_digit value < 128
digit_ascii value h = grind (arith, nat_tests)

pair_ascii : (byte : ℕ) → byte < 256 → IsAscii (hex_pair byte)
pair_ascii byte h zero = digit_ascii (byte / 16) (omega arith)
pair_ascii byte h (suc zero) = digit_ascii (byte % 16) (omega arith)
pair_ascii byte h (suc (suc i)) = omega arith

-- The digits are ASCII.
pub digits_ascii : (bytes : List ℕ) → ((i : ℕ) → slice_index bytes i < 256) → IsAscii (hex_digits bytes)
unfolding hex_digits
digits_ascii [] h = IsAscii-nil
digits_ascii (byte ∷ bytes) h =
    IsAscii-append (hex_pair byte) (hex_digits bytes) (pair_ascii byte (h 0)) (digits_ascii bytes (λ i. h (suc i)))

-- The digits are UTF-8.
pub digits_utf8 : (bytes : List ℕ) → ((i : ℕ) → slice_index bytes i < 256) → IsUtf8 (hex_digits bytes)
digits_utf8 bytes h = IsUtf8-from_ascii (hex_digits bytes) (digits_ascii bytes h)

complement : (number : ℤ) → of_z w64 number ≡ twos_complement number
complement (pos n) = refl
complement (negsuc n) = omega arith

-- What std's formatter gives for a number.
pub digits_of_number : (number : ℤ) →
    digits 16 true (of_z w64 number) ≡ number_digits number
unfolding number_digits
digits_of_number number = ap (digits 16 true) (complement number)
