-- What the rows of a character set say of its spellings.
use Rattle.std.proofs.Common.{◌≡◌, ℕ, ◌+◌, ◌-◌, ◌/◌, ◌<◌, ◌≤◌}
use Rattle.std.proofs.Common.{◌&&◌, nat_le, Bool, true, false}
use Rattle.std.proofs.Common.{List, [], ◌∷◌, Some, refl, sym, ◌∙◌, arith}
use Rattle.std.proofs.lemmas.Bool.Decides.{nat_tests}
use Rattle.mc_charset.specs.declared.charset.Charset.{Charset}
use Rattle.mc_charset.specs.declared.charset.Charset.TheVariants.{Latin1, Ascii, Utf8mb3, Utf8mb4}
use Rattle.mc_charset.specs.declared.charset.Charset.TheVariants.{Ucs2, Utf16, Utf32, Binary}
use Rattle.mc_charset.specs.Rows.{Range, Row, count, sequence, has_code, spelling_in}
use Rattle.mc_charset.specs.Tables.{rows}
use Rattle.mc_charset.specs.Chars.{spell}
use Rattle.mc_order.specs.Bin.{is_one_byte}

either : (b : Bool) (P : Type 0) → (b ≡ true → P) → (b ≡ false → P) → P
either true P holds fails = holds refl
either false P holds fails = fails refl

-- These ranges are one range of bytes.
abbrev is_byte : List Range → Bool
is_byte [] = false
is_byte (r ∷ []) = nat_le r.least r.greatest && nat_le r.greatest 255
is_byte (r ∷ s ∷ rs) = false

abbrev are_bytes : List Row → Bool
are_bytes [] = true
are_bytes (row ∷ rows) = is_byte row.bytes && are_bytes rows

abbrev IsByte : List ℕ → Type 0
IsByte front = (b : ℕ) × (front ≡ b ∷ []) × (b ≤ 255)

byte_sequence : (rs : List Range) (n : ℕ) → is_byte rs ≡ true → n < count rs →
    IsByte (sequence rs n)
byte_sequence [] n e l = absurd cc
byte_sequence (r ∷ []) n e l = (r.least + n / 1, refl, grind (arith, nat_tests))
byte_sequence (r ∷ s ∷ rs) n e l = absurd cc

some_same : {x y : List ℕ} → Some x ≡ Some y → x ≡ y
some_same e = cc

byte_spelling : (rows : List Row) (code : ℕ) (front : List ℕ) → are_bytes rows ≡ true →
    spelling_in rows code ≡ Some front → IsByte front
byte_spelling [] code front e s = absurd cc
byte_spelling (row ∷ rows) code front e s =
    either (has_code row code) (IsByte front)
    (λ has. let is : sequence row.bytes (code - row.first) ≡ front = some_same (rw has at s) in
    let h = byte_sequence row.bytes (code - row.first) (grind (arith, nat_tests)) (grind
    (arith, nat_tests)) in
    (h.0, sym is ∙ h.1, h.2))
    (λ has. byte_spelling rows code front (grind (arith, nat_tests)) (rw has at s))

bytes_alone : (set : Charset) → is_one_byte set ≡ true → are_bytes (rows set) ≡ true
bytes_alone Latin1 e = refl
bytes_alone Ascii e = refl
bytes_alone Binary e = refl
bytes_alone Utf8mb3 e = absurd cc
bytes_alone Utf8mb4 e = absurd cc
bytes_alone Ucs2 e = absurd cc
bytes_alone Utf16 e = absurd cc
bytes_alone Utf32 e = absurd cc

-- A set of one-byte spellings spells a character by one byte.
pub one_byte : (set : Charset) (code : ℕ) (front : List ℕ) → is_one_byte set ≡ true →
    spell set code ≡ Some front → IsByte front
unfolding spell
one_byte set code front one s = byte_spelling (rows set) code front (bytes_alone set one) s

-- All rows pass a test of their ranges.
abbrev pub all_rows : (List Range → Bool) → List Row → Bool
all_rows test [] = true
all_rows test (row ∷ rows) = test row.bytes && all_rows test rows

-- A spelling is a byte sequence of a row's ranges.
pub row_of : (test : List Range → Bool) (rows : List Row) (code : ℕ) (front : List ℕ) →
    all_rows test rows ≡ true → spelling_in rows code ≡ Some front →
    (rs : List Range) × (n : ℕ) × (n < count rs) × (front ≡ sequence rs n)
    × (test rs ≡ true)
row_of test [] code front e s = absurd cc
row_of test (row ∷ rows) code front e s =
    either (has_code row code)
    ((rs : List Range) × (n : ℕ) × (n < count rs) × (front ≡ sequence rs n)
    × (test rs ≡ true))
    (λ has. (
      row.bytes,
      code - row.first,
      grind (arith, nat_tests),
      sym (some_same
          (rw has at s)),
      grind (arith, nat_tests),
    ))
    (λ has. row_of test rows code front (grind (arith, nat_tests)) (rw has at s))

pub spelling_row : (set : Charset) (test : List Range → Bool) (code : ℕ) (front : List ℕ) →
    all_rows test (rows set) ≡ true → spell set code ≡ Some front →
    (rs : List Range) × (n : ℕ) × (n < count rs) × (front ≡ sequence rs n)
    × (test rs ≡ true)
unfolding spell
spelling_row set test code front e s = row_of test (rows set) code front e s
