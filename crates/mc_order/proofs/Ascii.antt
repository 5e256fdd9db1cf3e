-- A byte below 80 is a character of UTF-8 by itself.
use Rattle.std.proofs.Common.{◌≡◌, ℕ, ◌-◌, ◌<◌, List, [], ◌∷◌, Some, None, ap, arith}
use Rattle.std.proofs.lemmas.Bool.Decides.{nat_tests}
use Rattle.mc_charset.specs.declared.charset.Charset.{Charset}
use Rattle.mc_charset.specs.declared.charset.Charset.TheVariants.{Utf8mb3, Utf8mb4}
use Rattle.mc_charset.specs.Rows.{first_in}
use Rattle.mc_charset.specs.Tables.{rows}
use Rattle.mc_charset.specs.Chars.{spell, chars, chars_behind}

first_mb3 : (byte : ℕ) (rest : List ℕ) → byte < 0x80 →
    first_in (rows Utf8mb3) (byte ∷ rest) ≡ Some (byte, 1)
first_mb3 byte rest less = grind (arith, nat_tests)

first_mb4 : (byte : ℕ) (rest : List ℕ) → byte < 0x80 →
    first_in (rows Utf8mb4) (byte ∷ rest) ≡ Some (byte, 1)
first_mb4 byte rest less = grind (arith, nat_tests)

front : (set : Charset) (byte : ℕ) (rest : List ℕ) →
    first_in (rows set) (byte ∷ rest) ≡ Some (byte, 1) →
    chars set (byte ∷ rest) ≡ byte ∷ chars set rest
unfolding chars chars_behind
front set byte rest e = ap (λ found. elim found [
  | None ↦ []
  | Some f ↦ f.0 ∷ chars_behind set
      (f.1 - 1) rest
]) e

pub chars_mb3 : (byte : ℕ) (rest : List ℕ) → byte < 0x80 →
    chars Utf8mb3 (byte ∷ rest) ≡ byte ∷ chars Utf8mb3 rest
chars_mb3 byte rest less = front Utf8mb3 byte rest (first_mb3 byte rest less)

pub chars_mb4 : (byte : ℕ) (rest : List ℕ) → byte < 0x80 →
    chars Utf8mb4 (byte ∷ rest) ≡ byte ∷ chars Utf8mb4 rest
chars_mb4 byte rest less = front Utf8mb4 byte rest (first_mb4 byte rest less)

pub spell_mb3 : (byte : ℕ) → byte < 0x80 → spell Utf8mb3 byte ≡ Some (byte ∷ [])
unfolding spell
spell_mb3 byte less = grind (arith, nat_tests)

pub spell_mb4 : (byte : ℕ) → byte < 0x80 → spell Utf8mb4 byte ≡ Some (byte ∷ [])
unfolding spell
spell_mb4 byte less = grind (arith, nat_tests)

pub ruleset ascii = (chars_mb3, chars_mb4, spell_mb3, spell_mb4)
