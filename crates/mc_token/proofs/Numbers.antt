-- One step of the number that digits write.
use Rattle.std.proofs.Common.{◌≡◌, ℕ, ◌+◌, ◌-◌, ◌*◌, ◌<◌, ◌≤◌, true, false, List, [], ◌∷◌, None, length, take, drop, get_or, leb, suc, zero, refl, ap, sym, ◌∙◌, arith}
use Rattle.std.specs.Prelude.{option_map}
use Rattle.std.specs.Char.{is_ascii_digit}
use Rattle.std.specs.Str.Parse.{digits_value}
use Rattle.std.proofs.lemmas.Bool.Decides.{nat_tests}
use Rattle.std.proofs.lemmas.Int.Digits.{digits_value_more}
use Rattle.std.proofs.lemmas.Str.{digit_value_digit}
use Rattle.std.proofs.lemmas.Str.Parse.{digits_value-take-le}
use Rattle.std.proofs.Math.Seq.{take-append_seam}
use Rattle.mc_token.specs.Bytes.{continues_word}
use Rattle.mc_token.specs.Numbers.{greatest_int, decimals_len, int_of}
use Rattle.mc_token.specs.Spelled.{AreAll}
use Rattle.mc_token.specs.Spellings.{int_spelling}
use Rattle.mc_token.specs.declared.spelling.Shape.TheVariants.{Int}
use Rattle.mc_token.proofs.SpelledRuns.{run_of}

-- A digit's byte.
record Digit (byte : ℕ) : Type 0 where
  low : 48 ≤ byte
  high : byte ≤ 57

digit_of : (byte : ℕ) → is_ascii_digit byte ≡ true → Digit byte
digit_of byte e = record { low = grind (arith, nat_tests); high = grind (arith, nat_tests) }

digit_at : (digits : List ℕ) (at : ℕ) → AreAll is_ascii_digit digits → at < length digits
    → Digit (get_or digits at 0)
digit_at [] at all h = absurd (omega (arith, h))
digit_at (digit ∷ digits) zero all h = digit_of digit all.0
digit_at (digit ∷ digits) (suc at) all h = digit_at digits at all.1 (omega (arith, h))

-- The value with one more digit.
pub value-step : (digits : List ℕ) (at value : ℕ) → AreAll is_ascii_digit digits
    → at < length digits → value ≡ digits_value 10 (take at digits)
    → 10 * value + (get_or digits at 0 - 48) ≡ digits_value 10 (take (at + 1) digits)
value-step digits at value all h e =
    let d = digit_at digits at all h in
    let one = digit_value_digit (get_or digits at 0) (d.low, d.high) in
    let more = digits_value_more 10 digits at h in
    omega (arith, d.low, one, more, e)

pub is_digit : (digits : List ℕ) (at : ℕ) → AreAll is_ascii_digit digits → at < length digits
    → 48 ≤ get_or digits at 0
is_digit digits at all h = (digit_at digits at all h).low

int_of-none : (digits : List ℕ) → greatest_int < digits_value 10 digits → None ≡ int_of digits
int_of-none digits h =
    let over : leb (digits_value 10 digits) greatest_int ≡ false = grind (arith, nat_tests) in
    rw over refl

-- Some first digits write too great a number.
pub too_great : (digits : List ℕ) (at value : ℕ) → greatest_int < value
    → value ≡ digits_value 10 (take at digits) → None ≡ int_of digits
too_great digits at value h e =
    let most = digits_value-take-le 10 digits at (omega arith) in
    int_of-none digits (omega (arith, h, e, most))

-- The digits of a number, the first apart

one_more : (first n : ℕ) (behind : List ℕ) → take (1 + n) (first ∷ behind) ≡ first ∷ take n behind
one_more first n behind = let e : 1 + n ≡ suc n = omega arith in rw e refl

run-taken : (behind : List ℕ) → AreAll is_ascii_digit (take (decimals_len behind) behind)
run-taken behind =
    let r = run_of is_ascii_digit behind in
    let taken : take (decimals_len behind) behind ≡ r.run = ap (λ n. take n behind) r.len_is
    ∙ ap (take (length r.run)) r.bytes_are ∙ take-append_seam r.run r.behind in
    rw taken r.are_all

-- They are digits.
pub digits-taken : (bytes : List ℕ) (n : ℕ) → 0 < length bytes
    → is_ascii_digit (get_or bytes 0 0) ≡ true → n ≡ decimals_len (drop 1 bytes)
    → AreAll is_ascii_digit (take (1 + n) bytes)
digits-taken [] n some digit e = absurd (omega arith)
digits-taken (first ∷ behind) n some digit e =
    rw (one_more first n behind, e) (digit, run-taken behind)

-- They are all the digits.
pub int_spelling-is : (bytes : List ℕ) (n : ℕ) → 0 < length bytes
    → n ≡ decimals_len (drop 1 bytes) → continues_word (get_or (drop 1 bytes) n 0) ≡ false
    → int_spelling (get_or bytes 0 0) (drop 1 bytes)
    ≡ option_map (λ number. record { shape = Int number; len = 1 + n }) (int_of (take (1 + n) bytes))
int_spelling-is [] n some e ends = absurd (omega arith)
int_spelling-is (first ∷ behind) n some e ends = rw (one_more first n behind, sym e, ends) refl
