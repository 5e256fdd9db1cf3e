-- The rows of one byte each: the code point of a byte is the member of a list at its place.
use Rattle.std.proofs.Common.{◌≡◌, ◌≢◌, ℕ, ◌+◌, ◌-◌, ◌<◌, ◌≤◌, ◌⊎◌, true, false, List, [], ◌∷◌, Option, Some, None, length, get_or, sym, ap, ◌∙◌, arith, inl, inr, zero, suc, refl, cond, ◌/◌}
use Rattle.std.specs.Option.{option_map, option_or}
use Rattle.std.proofs.lemmas.Bool.{cases_lt}
use Rattle.std.proofs.lemmas.Bool.Decides.{nat_tests}
use Rattle.mc_charset.specs.Rows.{Row, place, first_in, has_code, spelling_in, sequence}
use Rattle.mc_charset.specs.Tables.{byte, only, rows, latin1_rows_80_to_9f}
use Rattle.mc_charset.specs.declared.charset.Charset.TheVariants.{Latin1}

-- A byte of its own for each of these code points, from `base` on.
abbrev pub bytes_from : ℕ → List ℕ → List Row
bytes_from base [] = []
bytes_from base (code ∷ codes) = byte base code ∷ bytes_from (base + 1) codes

same_byte : (b base : ℕ) (rest : List ℕ) → b ≡ base → place (only base ∷ []) (b ∷ rest) ≡ Some 0
same_byte b base rest h = grind (arith, nat_tests)

other_byte : (b base : ℕ) (rest : List ℕ) → base < b → place (only base ∷ []) (b ∷ rest) ≡ None
other_byte b base rest h = grind (arith, nat_tests)

first_or_later : (b base : ℕ) → base ≤ b → (b ≡ base) ⊎ (base < b)
first_or_later b base h = elim (cases_lt base b) [ inl k ↦ inr k | inr k ↦ inl (omega arith) ]

pub first_in-bytes_from : (codes : List ℕ) (base b : ℕ) (rest : List ℕ) → base ≤ b → b < base + length codes → first_in (bytes_from base codes) (b ∷ rest) ≡ Some (get_or codes (b - base) 0, 1)
first_in-bytes_from [] base b rest h k = absurd (omega arith)
first_in-bytes_from (code ∷ codes) base b rest h k =
    let found = λ (o : Option ℕ). option_or (option_map (λ n. (code + n, 1)) o) (first_in (bytes_from (base + 1) codes) (b ∷ rest)) in
    elim (first_or_later b base h) [
      | inl e ↦ let z : b - base ≡ 0 = omega arith in ap found (same_byte b base rest e) ∙ rw z (ap (λ x. Some (x, 1)) (omega arith))
      | inr e ↦ let z : b - base ≡ suc (b - (base + 1)) = omega arith in ap found (other_byte b base rest e) ∙ first_in-bytes_from codes (base + 1) b rest (omega arith) (omega arith) ∙ ap (λ n. Some (get_or (code ∷ codes) n 0, 1)) (sym z)
    ]

before_80_to_9f : (b : ℕ) (rest : List ℕ) → 0x80 ≤ b → b ≤ 0x9F → first_in (rows Latin1) (b ∷ rest) ≡ first_in latin1_rows_80_to_9f (b ∷ rest)
before_80_to_9f b rest h k = grind (arith, nat_tests)

-- The code point of a byte from 80 to 9F, in a list of those that the rows have.
pub latin1_middle : (codes : List ℕ) (b : ℕ) (rest : List ℕ) → bytes_from 0x80 codes ≡ latin1_rows_80_to_9f → length codes ≡ 32 → 0x80 ≤ b → b ≤ 0x9F → first_in (rows Latin1) (b ∷ rest) ≡ Some (get_or codes (b - 0x80) 0, 1)
latin1_middle codes b rest e l h k = before_80_to_9f b rest h k ∙ ap (λ r. first_in r (b ∷ rest)) (sym e) ∙ first_in-bytes_from codes 0x80 b rest h (omega arith)

-- The first place of a code point in the list has the byte that spells it.
has_byte : (base code : ℕ) → has_code (byte base code) code ≡ true
has_byte base code = let e : base + 1 - base ≡ 1 = omega arith in grind (arith, nat_tests)

lacks_byte : (base first code : ℕ) → first ≢ code → has_code (byte base first) code ≡ false
lacks_byte base first code h = let e : base + 1 - base ≡ 1 = omega arith in grind (arith, nat_tests)

pub spelling_in-bytes_from : (codes : List ℕ) (base code place : ℕ) → place < length codes → get_or codes place 0 ≡ code → ((k : ℕ) → k < place → get_or codes k 0 ≡ code → ⊥) → spelling_in (bytes_from base codes) code ≡ Some ((base + place) ∷ [])
spelling_in-bytes_from [] base code place h k l = absurd (omega arith)
spelling_in-bytes_from (first ∷ codes) base code zero h k l =
    let t : has_code (byte base first) code ≡ true = ap (λ x. has_code (byte base x) code) k ∙ has_byte base code in
    let z : base + (code - first) / 1 ≡ base + 0 = omega (arith, k) in
    ap (λ x. cond x (Some (sequence (only base ∷ []) (code - first))) (spelling_in (bytes_from (base + 1) codes) code)) t ∙ ap (λ x. Some (x ∷ [])) z
spelling_in-bytes_from (first ∷ codes) base code (suc place) h k l =
    let t : has_code (byte base first) code ≡ false = lacks_byte base first code (l zero (omega arith)) in
    ap (λ x. cond x (Some (sequence (only base ∷ []) (code - first))) (spelling_in (bytes_from (base + 1) codes) code)) t
    ∙ spelling_in-bytes_from codes (base + 1) code place (omega arith) k (λ i m. l (suc i) (omega arith))
    ∙ ap (λ x. Some (x ∷ [])) (omega arith)

pub spelling_in-bytes_from_none : (codes : List ℕ) (base code : ℕ) → ((k : ℕ) → k < length codes → get_or codes k 0 ≡ code → ⊥) → spelling_in (bytes_from base codes) code ≡ None
spelling_in-bytes_from_none [] base code l = refl
spelling_in-bytes_from_none (first ∷ codes) base code l =
    let t : has_code (byte base first) code ≡ false = lacks_byte base first code (l zero (omega arith)) in
    ap (λ x. cond x (Some (sequence (only base ∷ []) (code - first))) (spelling_in (bytes_from (base + 1) codes) code)) t
    ∙ spelling_in-bytes_from_none codes (base + 1) code (λ i m. l (suc i) (omega arith))
